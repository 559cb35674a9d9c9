-- The limits of a record's fields (docs/FORMATS.md, "Records").
use Rattle.std.specs.Prelude.{ℕ}

-- digits of a number (ITU-T E.164, section 6)
abbrev pub most_digits : ℕ
most_digits = 15

-- octets of an address that is a text
abbrev pub most_address_text : ℕ
most_address_text = 64

-- parts of one message
abbrev pub most_parts : ℕ
most_parts = 100

-- message classes end here (GSM 03.38, section 4)
abbrev pub last_class : ℕ
last_class = 3

-- the sum of all kinds of reports
abbrev pub most_mask : ℕ
most_mask = 31

-- minutes that a message is held or worth sending: thirty days
abbrev pub most_minutes : ℕ
most_minutes = 43200

-- the last second that a message may be asked for at: below 2^37
abbrev pub last_time : ℕ
last_time = 137438953471

-- octets of a user data header, which is all that one short message can carry (GSM 03.40, section 9.2.3.16)
abbrev pub most_header : ℕ
most_header = 140

-- octets of a body
abbrev pub most_body : ℕ
most_body = 2048

-- octets of an SMSC id, an account or a service
abbrev pub most_name : ℕ
most_name = 64

-- octets of a URL
abbrev pub most_url : ℕ
most_url = 2048
