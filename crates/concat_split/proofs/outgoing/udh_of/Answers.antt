use Rattle.std.proofs.Common.{◌≡◌, List, ℕ, Some, sym, subst, ap, ◌∙◌, length}
use Rattle.std.proofs.lemmas.Result.{IfOk-weaker}
use Rattle.kn_base.specs.declared.octets.Octets.{Octets}
use Rattle.kn_base.specs.declared.memory.Memory.{Memory}
use Rattle.sms_record.specs.Header.{IsHeaderOrNone}
use Rattle.sms_record.specs.Room.{header_len}
use Rattle.concat_split.specs.Joint.{Says}
use Rattle.concat_split.specs.Outgoing.{header_of, reference}
use Rattle.concat_split.proofs.Headers.{out_formed, out_says, length-header_of}
use Rattle.concat_split.proofs.outgoing.udh_of.Goals as goal

pub returns-clause-formed : goal.returns-clause-formed
returns-clause-formed c =
    let sms = c.args.sms.now in
    let out : List ℕ = header_of sms.udh sms.total sms.part c.args.number in
    IfOk-weaker {X = Octets} {Y = Memory} c.udh_as_defined.result (λ udh. udh ≡ out) (λ udh. IsHeaderOrNone udh)
    (λ udh e. subst IsHeaderOrNone (sym e) (out_formed sms.udh sms.total sms.part c.args.number c.requires.formed)) c.udh_as_defined.ensures

pub returns-clause-joined : goal.returns-clause-joined
returns-clause-joined c = λ none more.
    let sms = c.args.sms.now in
    let out : List ℕ = header_of sms.udh sms.total sms.part c.args.number in
    let says : List ℕ → Type 0 = λ w. Says w (Some (record { reference = reference c.args.number sms.part; total = sms.total; part = sms.part })) in
    IfOk-weaker {X = Octets} {Y = Memory} c.udh_as_defined.result (λ udh. udh ≡ out) (λ udh. says udh)
    (λ udh e. subst says (sym e) (out_says sms.udh sms.total sms.part c.args.number none more)) c.udh_as_defined.ensures

pub returns-clause-len : goal.returns-clause-len
returns-clause-len c =
    let sms = c.args.sms.now in
    let out : List ℕ = header_of sms.udh sms.total sms.part c.args.number in
    let fits : List ℕ → Type 0 = λ w. length w ≡ header_len (length sms.udh) sms.total in
    IfOk-weaker {X = Octets} {Y = Memory} c.udh_as_defined.result (λ udh. udh ≡ out) (λ udh. fits udh)
    (λ udh e. ap length e ∙ length-header_of sms.udh sms.total sms.part c.args.number) c.udh_as_defined.ensures
