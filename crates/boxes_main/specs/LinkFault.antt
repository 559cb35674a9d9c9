-- How the program ends where `link` failed by itself.
use Rattle.std.specs.Prelude.{codes}
use Rattle.boxes_main.specs.Line.{Row, line, counted}
use Rattle.boxes_main.specs.SessionFault.{session_row}
use Rattle.boxes_main.specs.declared.link_fault.ChoiceFault.{ChoiceFault}
use Rattle.boxes_main.specs.declared.link_fault.ChoiceFault.TheVariants.{NoSuchLink, KindNotBuilt}
use Rattle.boxes_main.specs.declared.link_fault.EndFault.{EndFault}
use Rattle.boxes_main.specs.declared.link_fault.EndFault.TheVariants as end_is
use Rattle.boxes_main.specs.declared.link_fault.LinkFault.{LinkFault}
use Rattle.boxes_main.specs.declared.link_fault.LinkFault.TheVariants.{Choice, Undialled, Session}

abbrev pub choice_row : ChoiceFault → Row
choice_row NoSuchLink = (3, line (codes "boxes: configuration: no such link"))
choice_row KindNotBuilt = (3, line (codes "boxes: configuration: link kind not built"))

abbrev pub end_row : EndFault → Row
end_row (end_is.Session fault) = session_row fault
end_row end_is.Full = (8, line (codes "boxes: store: full"))
end_row (end_is.LoginRefused code) = (10, line (counted (codes "boxes: link: login refused ") code))
end_row (end_is.BadFrame at) = (10, line (counted (codes "boxes: link: bad frame at ") at))
end_row (end_is.NoReply tag) = (10, line (counted (codes "boxes: link: no reply to ") tag))

abbrev pub link_row : LinkFault → Row
link_row (Choice fault) = choice_row fault
link_row Undialled = (6, line (codes "boxes: connection fault"))
link_row (Session fault) = end_row fault
