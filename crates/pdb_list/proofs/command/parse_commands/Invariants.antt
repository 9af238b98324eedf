use Rattle.std.proofs.Common.{◌≡◌, ◌≤◌, ◌-◌, length, map, string_bytes}
use Rattle.pdb_list.specs.Words.{commands_from, spelled, behind}
use Rattle.pdb_list.proofs.command.parse_commands.Given as goal

abbrev pub invariant-loop-at : goal.invariant-loop-at
invariant-loop-at g l = record {
  fewer : length l.commands.items ≤ l.at;
  told : spelled (map string_bytes l.words) ≡ behind l.commands.items (commands_from (length l.words - length l.commands.items) (map string_bytes l.words) l.at);
}

abbrev pub decreases-loop-at : goal.decreases-loop-at
decreases-loop-at g l = length l.words - l.at
