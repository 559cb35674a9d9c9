-- What a clock in memory tells.
use Rattle.std.specs.Prelude.{ℕ, List, Option}
use Rattle.kn_base.specs.Readings.{told_readings}
use Rattle.kn_base.specs.declared.mem_clock.MemClock.{MemClock}

-- its answers
abbrev pub answers_of : MemClock → List ℕ
answers_of c = c.answers.items

-- how often it was read
abbrev pub reads_of : MemClock → ℕ
reads_of c = c.reads

-- its readings, until the count of them stands still
abbrev pub readings_of : MemClock → Option (List ℕ)
readings_of c = told_readings c.answers.items c.reads

-- its last reading
abbrev pub latest_of : MemClock → ℕ
latest_of c = c.latest
