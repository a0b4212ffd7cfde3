-- What refusals guard: each row is found by working it out, and two programs whose mains come to different ends do not mean the same.
-- Assumes nothing.
use Rattle.std.proofs.Common.{◌≡◌, ℕ, true, false, ltb, List, [], ◌∷◌, sym, refl, ap, ◌∙◌}
use borrow.Author.Tests.{clash}
use Rattle.language.specs.Basics.{every, same}
use Rattle.language.specs.Bytes.{in_bytes}
use Rattle.language.specs.Expr.{limit, Program, main, count_exprs, parts}
use Rattle.language.specs.Meaning.{Came, came, wrong, deep, look, fun_of, after_telling, then, looked, binds, eval_all, called, step, eval, apply}
use Rattle.language.specs.Places.{nth_expr, at_place, with_part, put_at}
use Rattle.language.specs.Names.{joined, free, free_all, distinct}
use Rattle.language.specs.Bare.{how_near, near_or_far, bare, bare_all, bare_spelled, bares_spelled}
use Rattle.language.specs.Spelling.{expr_spelled, exprs_spelled}
use Rattle.language.specs.Fits.{an_expr, all_exprs, a_program}
use Rattle.language.specs.Equivalence.{is_deep, MeanSame}
use Rattle.language.proofs.NameFacts.{same_refl}
use Rattle.language.proofs.MeanFacts.{mean_apply}
use Rattle.model.specs.Command.{Command, fits}
use Rattle.model.specs.State.{no, at_first_fun, of_some, fine}
use Rattle.model.specs.Rename.{renamed, renamed_all, bind_renamed, put_name, nth_name, param_renamed}
use Rattle.model.specs.FunctionNames.{recalled, recalled_all, calls, calls_all}
use Rattle.model.specs.Extract.{given_to, given_at, vars}
use Rattle.model.specs.Inline.{quiet, put_for, bind_inlined, binds_of, inlined_by, call_inlined}
use Rattle.model.specs.Model.{turn}
use Rattle.model.specs.Sample.{loaded}
use Rattle.model.specs.Guards.{Guarded, GuardsRenaming, GuardsMaking, GuardsPlacing, GuardsDropping, Guards}

-- what a run came to, as numbers; none if it went too deep
end_of : Came → List ℕ
end_of (came v ts) = 0 ∷ v ∷ ts
end_of (wrong k ts) = 1 ∷ k ∷ ts
end_of deep = []

-- two ends that differ, neither too deep
abbrev Apart : Came → Came → Type 0
Apart r s = (is_deep r ≡ false) × (is_deep s ≡ false) × (same (end_of r) (end_of s) ≡ false)

unlike : (p q : Program) (vs : List ℕ) (r s : Came) → apply 8 p main vs ≡ r → apply 8 q main vs ≡ s → every (λ v. ltb v limit) vs ≡ true → Apart r s →
    MeanSame p q → ⊥
unlike p q vs r s in_p in_q small apart mean =
    let both = mean_apply p q 8 8 vs small mean (ap is_deep in_p ∙ apart.0) (ap is_deep in_q ∙ apart.1) in
    clash (sym apart.2 ∙ ap (λ c. same (end_of r) (end_of c)) (sym in_q ∙ sym both ∙ in_p) ∙ same_refl (end_of r))

guarded : {p : Program} {c : Command} {k : ℕ} {q : Program} {vs : List ℕ} {r s : Came} →
    (a_program p ≡ true) × (fine p ≡ true) × (fits c ≡ true) × (every (λ v. ltb v limit) vs ≡ true) → turn (loaded p) c ≡ no k (loaded p) →
    apply 8 p main vs ≡ r → apply 8 q main vs ≡ s → Apart r s → Guarded p c k q vs r s
guarded {p} {c} {k} {q} {vs} {r} {s} may-be refusal in_p in_q apart =
    record {
      program_fits = may-be.0;
      program_fine = may-be.1;
      command_fits = may-be.2;
      refusal = refusal;
      comes_to = in_p;
      would_come_to = in_q;
      other_meaning = unlike p q vs r s in_p in_q may-be.3 apart;
    }

pub guards_renaming : GuardsRenaming
unfolding turn at_first_fun of_some at_place bind_renamed renamed renamed_all put_at param_renamed put_name nth_name distinct calls calls_all joined recalled recalled_all bare bare_all how_near near_or_far bare_spelled bares_spelled in_bytes eval step called fun_of same binds look looked then after_telling eval_all is_deep end_of an_expr all_exprs fits expr_spelled exprs_spelled count_exprs
guards_renaming = (
  guarded (refl, refl, refl, refl) refl refl refl (refl, refl, refl),
  guarded (refl, refl, refl, refl) refl refl refl (refl, refl, refl),
  guarded (refl, refl, refl, refl) refl refl refl (refl, refl, refl),
  guarded (refl, refl, refl, refl) refl refl refl (refl, refl, refl),
  guarded (refl, refl, refl, refl) refl refl refl (refl, refl, refl),
  guarded (refl, refl, refl, refl) refl refl refl (refl, refl, refl),
  guarded (refl, refl, refl, refl) refl refl refl (refl, refl, refl),
  guarded (refl, refl, refl, refl) refl refl refl (refl, refl, refl),
)

pub guards_making : GuardsMaking
unfolding turn at_first_fun of_some at_place nth_expr parts calls calls_all joined free free_all given_at given_to vars put_at with_part eval step called fun_of same binds look looked then after_telling eval_all is_deep end_of an_expr all_exprs fits distinct in_bytes expr_spelled exprs_spelled count_exprs
guards_making = (
  guarded (refl, refl, refl, refl) refl refl refl (refl, refl, refl),
  guarded (refl, refl, refl, refl) refl refl refl (refl, refl, refl),
  guarded (refl, refl, refl, refl) refl refl refl (refl, refl, refl),
  guarded (refl, refl, refl, refl) refl refl refl (refl, refl, refl),
  guarded (refl, refl, refl, refl) refl refl refl (refl, refl, refl),
)

pub guards_placing : GuardsPlacing
unfolding turn at_first_fun of_some at_place given_at quiet bind_inlined put_for call_inlined inlined_by binds_of free free_all joined eval step called fun_of same binds look looked then after_telling eval_all is_deep end_of an_expr all_exprs fits distinct in_bytes expr_spelled exprs_spelled count_exprs
guards_placing = (
  guarded (refl, refl, refl, refl) refl refl refl (refl, refl, refl),
  guarded (refl, refl, refl, refl) refl refl refl (refl, refl, refl),
  guarded (refl, refl, refl, refl) refl refl refl (refl, refl, refl),
  guarded (refl, refl, refl, refl) refl refl refl (refl, refl, refl),
  guarded (refl, refl, refl, refl) refl refl refl (refl, refl, refl),
  guarded (refl, refl, refl, refl) refl refl refl (refl, refl, refl),
  guarded (refl, refl, refl, refl) refl refl refl (refl, refl, refl),
)

pub guards_dropping : GuardsDropping
unfolding turn at_first_fun calls calls_all joined eval step called fun_of same binds look looked then after_telling eval_all is_deep end_of an_expr all_exprs fits distinct in_bytes expr_spelled exprs_spelled count_exprs
guards_dropping = (
  guarded (refl, refl, refl, refl) refl refl refl (refl, refl, refl),
  guarded (refl, refl, refl, refl) refl refl refl (refl, refl, refl),
)

pub guards : Guards
guards = (guards_renaming, guards_making, guards_placing, guards_dropping)
