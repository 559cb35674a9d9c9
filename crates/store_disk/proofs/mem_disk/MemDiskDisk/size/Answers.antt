use Rattle.std.proofs.Common.{sym, ◌∙◌, ap, length}
use Rattle.store_disk.specs.Disk.{octets_of}
use Rattle.store_disk.specs.MemDisk.{mem_areas, mem_log}
use Rattle.store_disk.proofs.Told.{reads_told}
use Rattle.store_disk.proofs.mem_disk.MemDiskDisk.size.Goals as goal

pub returns-clause-size : goal.returns-clause-size
returns-clause-size c =
    ap length (c.area.ensures.held ∙ ap (λ areas. octets_of areas c.args.area) (c.in_ok-begin.ensures.areas ∙ sym (reads_told (mem_log c.args.self.now) (mem_areas c.args.self.now))))
