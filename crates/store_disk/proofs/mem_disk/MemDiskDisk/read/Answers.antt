use Rattle.std.proofs.Common.{sym, ◌∙◌, subst}
use Rattle.store_disk.specs.Disk.{Reads}
use Rattle.store_disk.specs.MemDisk.{mem_areas, mem_log}
use Rattle.store_disk.proofs.Told.{reads_told}
use Rattle.store_disk.proofs.mem_disk.MemDiskDisk.read.Goals as goal

pub returns-clause-read : goal.returns-clause-read
returns-clause-read c =
    subst (λ areas. Reads areas c.args.area c.args.at c.copy_out.new.into) (c.in_ok-begin.ensures.areas ∙ sym (reads_told (mem_log c.args.self.now) (mem_areas c.args.self.now))) c.copy_out.ensures
