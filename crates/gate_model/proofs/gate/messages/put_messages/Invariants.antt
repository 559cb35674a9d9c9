use Rattle.std.proofs.Common.{◌≡◌, ◌≤◌, ◌<◌, ◌^◌, ◌+◌, ◌++◌, length, map}
use Rattle.std.specs.Vec.Iter.{into_iter_items, into_iter_len}
use Rattle.numbered_table.specs.Pairs.{AllBelow}
use Rattle.gate_model.specs.Fold.{unleased}
use Rattle.gate_model.specs.Numbers.{numbered_from}
use Rattle.gate_model.proofs.gate.messages.put_messages.Given as goal

-- with those that are left, the messages are those that there are to be
abbrev pub invariant-loop-sms : goal.invariant-loop-sms
invariant-loop-sms l = record {
  joined : l.waiting.pairs ++ numbered_from l.number (map unleased (into_iter_items l.sms-iterator)) ≡ l.initial.waiting.pairs ++ numbered_from l.first (map unleased (into_iter_items l.initial.sms-iterator));
  above : AllBelow l.number l.waiting.pairs;
  room : length (into_iter_items l.sms-iterator) ≤ l.waiting.room;
  fits : l.number + length (into_iter_items l.sms-iterator) < 2 ^ 64;
  len : into_iter_len l.sms-iterator ≡ length (into_iter_items l.sms-iterator);
}
