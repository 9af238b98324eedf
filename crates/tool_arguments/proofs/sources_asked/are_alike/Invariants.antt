use Rattle.std.proofs.Common.{◌≡◌, drop, length, map}
use Rattle.std.specs.Str.{bytes_eq}
use Rattle.tool_arguments.specs.SourcesAsked.{folded, folds}
use Rattle.tool_arguments.proofs.sources_asked.are_alike.Given as goal

-- the bytes are alike if those from here on are
abbrev pub invariant-loop-at : goal.invariant-loop-at
invariant-loop-at l = record {
  told : bytes_eq (folds l.left) (folds l.right) ≡ bytes_eq (map folded (drop l.at l.left)) (map folded (drop l.at l.right));
  same : length l.left ≡ length l.right;
}
