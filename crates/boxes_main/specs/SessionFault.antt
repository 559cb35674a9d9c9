-- How the program ends where a session failed, whatever it speaks.
use Rattle.std.specs.Prelude.{codes}
use Rattle.boxes_main.specs.Line.{Row, line}
use Rattle.boxes_main.specs.declared.session_fault.SessionFault.{SessionFault}
use Rattle.boxes_main.specs.declared.session_fault.SessionFault.TheVariants.{Disk, Connection, Budget, Memory}

abbrev pub session_row : SessionFault → Row
session_row Disk = (5, line (codes "boxes: store: disk fault"))
session_row Connection = (6, line (codes "boxes: connection fault"))
session_row Budget = (7, line (codes "boxes: budget spent"))
session_row Memory = (9, line (codes "boxes: out of memory"))
