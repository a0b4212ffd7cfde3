-- What is written so far, and what stays behind it.
use Rattle.std.proofs.Common.{◌≡◌, ◌++◌, take, drop}
use Rattle.language.specs.Packed.{packed}
use Rattle.machine.proofs.load.pack.Given as goal

abbrev pub invariant-loop-k : goal.invariant-loop-k
invariant-loop-k l = l.words ≡ take l.k (packed l.text) ++ drop l.k l.initial.words
