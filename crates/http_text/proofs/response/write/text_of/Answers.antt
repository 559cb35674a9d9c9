use Rattle.std.proofs.Common.{◌+◌, length, decimal, codes, ◌∙◌}
use Rattle.http_text.proofs.ResponseLemmas.{behind, response_text-parts}
use Rattle.http_text.proofs.response.write.text_of.Goals as goal

pub returns : goal.returns
returns c =
    let response = c.args.response in
    let word = c.connection.result.now in
    behind response.name.now _ c.put-8.ensures.items
    (behind response.text.now _ c.put-7.ensures.items
    (behind (codes "\r\n\r\n") _ c.put-6.ensures.items
    (behind word _ c.put-5.ensures.items
    (behind (codes "\r\nConnection: ") _ c.put-4.ensures.items
    (behind (decimal (length response.text.now + length response.name.now)) _ c.put_number.ensures.items
    (behind (codes "\r\nContent-Type: text/plain\r\nContent-Length: ") _ c.put-3.ensures.items
    (behind response.status.now _ c.put-2.ensures.items
    (behind (codes "HTTP/1.1 ") _ c.put.ensures.items c.new-text.ensures))))))))
    ∙ response_text-parts c.args.close response.status.now word response.text.now response.name.now c.connection.ensures.value
