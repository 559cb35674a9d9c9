-- The escapes by their letters.
use Rattle.std.specs.Prelude.{ℕ, ◌==◌, Option, Some, None, if◌then◌else◌}
use Rattle.url_escapes.specs.declared.escape.Escape.{Escape}
use Rattle.url_escapes.specs.declared.escape.Escape.TheVariants.{Keyword, NextWord, NextWordTilde, OtherWords, AllWords, Message, Date, Seconds, Sender, Receiver, SenderPlus, ReceiverPlus, Smsc, InternalId, ReportValue, Answer, ForeignId, Name, Coding, Class, Charset, Udh, Account}

-- the escape whose letter stands behind a %, a row each
abbrev pub escape_of : ℕ → Option Escape
escape_of letter =
    if letter == 107 then Some Keyword  -- k
    else if letter == 115 then Some NextWord  -- s
    else if letter == 83 then Some NextWordTilde  -- S
    else if letter == 114 then Some OtherWords  -- r
    else if letter == 97 then Some AllWords  -- a
    else if letter == 98 then Some Message  -- b
    else if letter == 116 then Some Date  -- t
    else if letter == 84 then Some Seconds  -- T
    else if letter == 112 then Some Sender  -- p
    else if letter == 80 then Some Receiver  -- P
    else if letter == 113 then Some SenderPlus  -- q
    else if letter == 81 then Some ReceiverPlus  -- Q
    else if letter == 105 then Some Smsc  -- i
    else if letter == 73 then Some InternalId  -- I
    else if letter == 100 then Some ReportValue  -- d
    else if letter == 65 then Some Answer  -- A
    else if letter == 70 then Some ForeignId  -- F
    else if letter == 110 then Some Name  -- n
    else if letter == 99 then Some Coding  -- c
    else if letter == 109 then Some Class  -- m
    else if letter == 67 then Some Charset  -- C
    else if letter == 117 then Some Udh  -- u
    else if letter == 111 then Some Account  -- o
    else None
