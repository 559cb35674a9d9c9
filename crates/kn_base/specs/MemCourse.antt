-- What a peer in memory went through, and what is still to come.
use Rattle.std.specs.Prelude.{ℕ, List, [], Some}
use Rattle.kn_base.specs.Count.{Counts, no_counts}
use Rattle.kn_base.specs.Course.{Course}
use Rattle.kn_base.specs.Talk.{said_of}
use Rattle.kn_base.specs.Script.{Script, octets_of}
use Rattle.kn_base.specs.MemPeer.{answers_left}
use Rattle.kn_base.specs.declared.mem_peer.MemPeer.{MemPeer}

-- its script
abbrev pub mem_script : MemPeer → Script
mem_script p = record { answers = answers_left p.at p.answers.items; calls = p.calls }

-- its counts
abbrev pub mem_counts : MemPeer → Counts
mem_counts p = record { faults = p.faults; starved = p.starved; quiets = p.quiets; ended = p.ended }

-- all is told
abbrev pub mem_course : MemPeer → Course
mem_course p = record {
  counts = mem_counts p;
  left = Some (octets_of (answers_left p.at p.answers.items));
  given = Some (said_of p.pieces.items);
  talk = Some p.pieces.items;
}

-- before the first call
abbrev pub fresh_course : List ℕ → Course
fresh_course left = record { counts = no_counts; left = Some left; given = Some []; talk = Some [] }
