use Rattle.std.proofs.Common.{inl, inr, ◌∙◌, ap, take, ◌∷◌}
use Rattle.store_disk.specs.Disk.{octets_of, with_octets}
use Rattle.store_disk.specs.MemDisk.{cut_entry, mem_areas, mem_log}
use Rattle.store_disk.proofs.Told.{told_cut, told_uncut}
use Rattle.store_disk.proofs.mem_disk.MemDisk.shorten.Goals as goal

pub returns-then-fails-clause-cut : goal.returns-then-fails-clause-cut
returns-then-fails-clause-cut c =
    inr (told_uncut c.args.call c.args.area c.args.size c.left_by-left.result (mem_log c.args.self.now) (mem_log c.note_cut.new.self) (mem_areas c.args.self.now) (mem_areas c.note_cut.new.self) c.requires
    (c.left_by-left.ensures.all c.if-fails.true) c.in-Ok.ensures.ok c.in-Ok.ensures.areas)

pub returns-clause-cut : goal.returns-clause-cut
returns-clause-cut c =
    told_cut c.args.call c.args.area c.args.size (mem_log c.args.self.now) (mem_log c.truncate.new.self) (mem_areas c.args.self.now) (mem_areas c.truncate.new.self)
    (c.truncate.ensures.log ∙ c.in-Ok.ensures.ok ∙ ap (λ n. cut_entry c.args.call c.args.area c.args.size n (mem_areas c.args.self.now) ∷ mem_log c.args.self.now) (c.left_by-left.ensures.cut c.if-fails.false))
    (c.truncate.ensures.areas ∙ ap (λ areas. with_octets areas c.args.area (take c.args.size (octets_of areas c.args.area))) c.in-Ok.ensures.areas)

pub returns-then-fails-clause-told : goal.returns-then-fails-clause-told
returns-then-fails-clause-told c =
    inl (told_uncut c.args.call c.args.area c.args.size c.left_by-left.result (mem_log c.args.self.now) (mem_log c.note_cut.new.self) (mem_areas c.args.self.now) (mem_areas c.note_cut.new.self) c.requires
    (c.left_by-left.ensures.all c.if-fails.true) c.in-Ok.ensures.ok c.in-Ok.ensures.areas)
