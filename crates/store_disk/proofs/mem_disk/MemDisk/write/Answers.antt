use Rattle.std.proofs.Common.{inl, inr, ◌∙◌, ap, length}
use Rattle.store_disk.specs.Disk.{after_write}
use Rattle.store_disk.specs.MemDisk.{mem_areas, mem_log}
use Rattle.store_disk.proofs.Told.{told_unwritten, told_written}
use Rattle.store_disk.proofs.mem_disk.MemDisk.write.Goals as goal

pub returns-then-fails-clause-told : goal.returns-then-fails-clause-told
returns-then-fails-clause-told c =
    inl (told_unwritten c.args.call c.args.area c.args.at (length c.args.bytes.now) (mem_log c.args.self.now) (mem_log c.note_write.new.self) (mem_areas c.args.self.now) (mem_areas c.note_write.new.self)
    c.in-Ok.ensures.ok c.in-Ok.ensures.areas)

pub returns-then-fails-clause-written : goal.returns-then-fails-clause-written
returns-then-fails-clause-written c =
    inr (told_unwritten c.args.call c.args.area c.args.at (length c.args.bytes.now) (mem_log c.args.self.now) (mem_log c.note_write.new.self) (mem_areas c.args.self.now) (mem_areas c.note_write.new.self)
    c.in-Ok.ensures.ok c.in-Ok.ensures.areas)

pub returns-in-Ok-put-clause-written : goal.returns-in-Ok-put-clause-written
returns-in-Ok-put-clause-written c =
    told_written c.args.call c.args.area c.args.at c.args.bytes.now (mem_log c.args.self.now) (mem_log c.put.new.self) (mem_areas c.args.self.now) (mem_areas c.put.new.self) c.requires
    (c.in-Ok-put.ensures.log ∙ c.in-Ok.ensures.ok) (c.in-Ok-put.ensures.ok ∙ ap (after_write c.args.area c.args.at c.args.bytes.now) c.in-Ok.ensures.areas)

pub returns-in-Err-clause-written : goal.returns-in-Err-clause-written
returns-in-Err-clause-written c =
    inr (told_unwritten c.args.call c.args.area c.args.at (length c.args.bytes.now) (mem_log c.args.self.now) (mem_log c.put.new.self) (mem_areas c.args.self.now) (mem_areas c.put.new.self)
    (c.in-Err.ensures.log ∙ c.in-Ok.ensures.ok) (c.in-Err.ensures.err ∙ c.in-Ok.ensures.areas))

pub returns-in-Err-clause-told : goal.returns-in-Err-clause-told
returns-in-Err-clause-told c =
    inl (told_unwritten c.args.call c.args.area c.args.at (length c.args.bytes.now) (mem_log c.args.self.now) (mem_log c.put.new.self) (mem_areas c.args.self.now) (mem_areas c.put.new.self)
    (c.in-Err.ensures.log ∙ c.in-Ok.ensures.ok) (c.in-Err.ensures.err ∙ c.in-Ok.ensures.areas))
