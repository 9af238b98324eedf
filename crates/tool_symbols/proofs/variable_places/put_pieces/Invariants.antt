use Rattle.std.proofs.Common.{◌≡◌, ◌++◌, flat_map, take}
use Rattle.tool_symbols.specs.VariablePlaces.{piece_line}
use Rattle.tool_symbols.proofs.variable_places.put_pieces.Given as goal

-- the lines of the pieces so far were put
abbrev pub invariant-loop-piece : goal.invariant-loop-piece
invariant-loop-piece l = l.out.items ≡ l.fn.out.items ++ flat_map (piece_line l.depth l.word l.start) (take l.piece-index l.pieces)
