-- How the program ends where no store stands open.
use Rattle.std.specs.Prelude.{codes}
use Rattle.config_groups.specs.declared.read.ConfigFault.{ConfigFault}
use Rattle.config_groups.specs.declared.read.ConfigFault.TheVariants as config_is
use Rattle.gate_store.specs.declared.store_fault.StoreFault.{StoreFault}
use Rattle.gate_store.specs.declared.store_fault.StoreFault.TheVariants as store_is
use Rattle.boxes_main.specs.Line.{Row, line, place, lack, misfit}
use Rattle.boxes_main.specs.declared.opening_fault.OpeningFault.{OpeningFault}
use Rattle.boxes_main.specs.declared.opening_fault.OpeningFault.TheVariants.{Usage, Configuration, NoStoreFile, Store}

abbrev pub configuration_row : ConfigFault → Row
configuration_row (config_is.Line file number) = (3, line (place file number))
configuration_row (config_is.Value file number) = (3, line (place file number))
configuration_row (config_is.Missing group variable) = (3, line (lack group variable))
configuration_row config_is.TooDeep = (3, line (codes "boxes: configuration: too deep"))
configuration_row config_is.NoFile = (3, line (codes "boxes: configuration: cannot read"))
configuration_row config_is.Memory = (9, line (codes "boxes: out of memory"))

abbrev pub store_row : StoreFault → Row
store_row (store_is.Foreign area at) = (4, line (misfit area at))
store_row store_is.Disk = (5, line (codes "boxes: store: disk fault"))
store_row store_is.Memory = (9, line (codes "boxes: out of memory"))

abbrev pub opening_row : OpeningFault → Row
opening_row Usage = (2, line (codes "boxes: usage: boxes door CONF | show CONF | link CONF ID"))
opening_row (Configuration fault) = configuration_row fault
opening_row NoStoreFile = (3, line (codes "boxes: configuration: no store-file"))
opening_row (Store fault) = store_row fault
