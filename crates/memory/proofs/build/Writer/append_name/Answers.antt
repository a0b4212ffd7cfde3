-- The length, and then the bytes: there is room for both, or none.
use Rattle.std.proofs.Common.{length, Some, refl, sym, ◌∙◌, subst, arith}
use Rattle.std.proofs.lemmas.List.{length-append}
use Rattle.language.specs.Bytes.{eight}
use Rattle.language.proofs.PackedFacts.{eight_is}
use Rattle.language.proofs.StandsFacts.{length-eight}
use Rattle.memory.specs.Build.{Appended}
use Rattle.memory.proofs.BuildFacts.{appends_then}
use Rattle.memory.proofs.build.Writer.append_name.Goals as goal

pub returns-then-saturating_add-gt-MAX_BYTES-clause-value : goal.returns-then-saturating_add-gt-MAX_BYTES-clause-value
returns-then-saturating_add-gt-MAX_BYTES-clause-value c =
    (refl, omega (arith, c.saturating_add.ensures, c.saturating_add-2.ensures, c.if-saturating_add-gt-MAX_BYTES.true, length-eight (length c.args.name.now), length-append (eight (length c.args.name.now)) c.args.name.now))

pub returns-clause-value : goal.returns-clause-value
returns-clause-value c =
    let n = length c.args.name.now in
    let counted = subst (λ vs. Appended c.args.self.now vs (Some c.in_ok-append_bytes.field-0) c.append_bytes.new.self) (c.to_be_bytes.ensures ∙ sym (eight_is n)) c.in_ok-append_bytes.ensures.value in
    appends_then c.args.self.now (eight n) c.append_bytes.new.self c.args.name.now _ _
    (omega (arith, c.saturating_add.ensures, c.saturating_add-2.ensures, c.if-saturating_add-gt-MAX_BYTES.false, length-eight n, length-append (eight n) c.args.name.now)) counted c.append_bytes-2.ensures.value
