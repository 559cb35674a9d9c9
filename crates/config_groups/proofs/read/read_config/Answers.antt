use Rattle.config_groups.proofs.Configs.{config_asks, config_spared, config_read, config_missed}
use Rattle.config_groups.proofs.Whole.{within_ranges}
use Rattle.config_groups.proofs.read.read_config.Goals as goal

pub returns-clause-read : goal.returns-clause-read
returns-clause-read g c = config_read c.args.name.now (g.S.Shelf.faults c.args.shelf.now) (g.S.Shelf.faults c.read_lines.new.shelf) c.in_ok-read.read
    c.in_ok-read.ensures.missed (g.S.Shelf.files c.args.shelf.now) c.config_of.result c.in_ok-read.ensures.read c.config_of.ensures.ok c.config_of.ensures.fault

pub returns-clause-missed : goal.returns-clause-missed
returns-clause-missed g c = config_missed c.args.name.now (g.S.Shelf.faults c.args.shelf.now) (g.S.Shelf.faults c.read_lines.new.shelf) c.in_ok-read.read
    c.in_ok-read.ensures.missed c.config_of.result c.config_of.ensures.fault

pub returns-clause-ranges : goal.returns-clause-ranges
returns-clause-ranges g c = within_ranges c.in_ok-read.read c.config_of.result c.config_of.ensures.ok

pub returns-clause-asked : goal.returns-clause-asked
returns-clause-asked g c = config_asks c.args.name.now (g.S.Shelf.faults c.args.shelf.now) (g.S.Shelf.faults c.read_lines.new.shelf) c.in_ok-read.read
    c.in_ok-read.ensures.missed (g.S.Shelf.asked c.args.shelf.now) (g.S.Shelf.asked c.read_lines.new.shelf) c.in_ok-read.ensures.asked c.in_ok-read.ensures.spared
    (g.S.Shelf.files c.args.shelf.now) c.config_of.result c.in_ok-read.ensures.read c.config_of.ensures.ok c.config_of.ensures.fault

pub returns-clause-spared : goal.returns-clause-spared
returns-clause-spared g c = config_spared c.args.name.now (g.S.Shelf.faults c.args.shelf.now) (g.S.Shelf.faults c.read_lines.new.shelf) c.in_ok-read.read
    c.in_ok-read.ensures.missed (g.S.Shelf.asked c.args.shelf.now) (g.S.Shelf.asked c.read_lines.new.shelf) c.in_ok-read.ensures.asked c.in_ok-read.ensures.spared
    c.config_of.result c.config_of.ensures.ok
