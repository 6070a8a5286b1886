use Rattle.std.proofs.Common.{string_bytes}
use Rattle.std.specs.List.{AllWithin}
use Rattle.programs.specs.Arguments.{NamesWorld}
use Rattle.programs.proofs.arguments.read_arguments.Given as goal

-- the arguments so far name worlds
abbrev pub invariant-loop-place : goal.invariant-loop-place
invariant-loop-place l = AllWithin (λ x. NamesWorld (string_bytes x)) l.arguments 0 l.place
