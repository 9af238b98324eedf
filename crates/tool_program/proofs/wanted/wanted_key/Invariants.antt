use Rattle.std.proofs.Common.{◌≡◌, map, take}
use Rattle.std.specs.Char.{to_ascii_uppercase}
use Rattle.std.specs.List.{filter}
use Rattle.tool_arguments.specs.Options.{is_key_digit}
use Rattle.tool_program.proofs.wanted.wanted_key.Given as goal

-- the digits among the bytes so far were put
abbrev pub invariant-loop-byte : goal.invariant-loop-byte
invariant-loop-byte l = l.key.items ≡ map to_ascii_uppercase (filter is_key_digit (take l.byte-index l.fn.value))
