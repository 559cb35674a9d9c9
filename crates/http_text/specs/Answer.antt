-- What each answer says over HTTP.
use Rattle.std.specs.Prelude.{ℕ, Bool, List, ◌++◌, codes}
use Rattle.http_text.specs.Response.{response_text}
use Rattle.http_text.specs.declared.answer.Answer.{Answer}
use Rattle.http_text.specs.declared.answer.Answer.TheVariants.{Accepted, Queued, BadRequest, UnknownPath, Unauthorized, NotRoutable, Unavailable, OutOfMemory}
use Rattle.http_text.specs.declared.answer.spot.Spot.{Spot}
use Rattle.http_text.specs.declared.answer.spot.Spot.TheVariants.{Head, Method, Body, To, From, Coding, Mclass, Charset, Udh, Smsc, Validity, Deferred, DlrMask, DlrUrl, Account, Text}

-- the name of what is wrong with a request
abbrev pub spot_name : Spot → List ℕ
spot_name Head = codes "head"
spot_name Method = codes "method"
spot_name Body = codes "body"
spot_name To = codes "to"
spot_name From = codes "from"
spot_name Coding = codes "coding"
spot_name Mclass = codes "mclass"
spot_name Charset = codes "charset"
spot_name Udh = codes "udh"
spot_name Smsc = codes "smsc"
spot_name Validity = codes "validity"
spot_name Deferred = codes "deferred"
spot_name DlrMask = codes "dlr-mask"
spot_name DlrUrl = codes "dlr-url"
spot_name Account = codes "account"
spot_name Text = codes "text"

-- The code of an answer with its reason (RFC 9110 15), and its body.
pub record Row : Type 0 where
  pub status : List ℕ
  pub body : List ℕ

-- what each answer says
abbrev pub row : Answer → Row
row Accepted = record { status = codes "202 Accepted"; body = codes "0: Accepted for delivery" }
row Queued = record { status = codes "202 Accepted"; body = codes "3: Queued for later delivery" }
row (BadRequest spot) = record { status = codes "400 Bad Request"; body = codes "Bad request: " ++ spot_name spot }
row UnknownPath = record { status = codes "404 Not Found"; body = codes "Unknown path." }
row Unauthorized = record { status = codes "403 Forbidden"; body = codes "Authorization failed for sendsms" }
row NotRoutable = record { status = codes "403 Forbidden"; body = codes "Not routable. Do not try again." }
row Unavailable = record { status = codes "503 Service Unavailable"; body = codes "Temporal failure, try again later." }
row OutOfMemory = record { status = codes "500 Internal Server Error"; body = codes "Out of memory." }

-- the octets of an answer. close says that the connection closes
abbrev pub reply_text : Answer → Bool → List ℕ
reply_text answer close = response_text (row answer).status (row answer).body close
