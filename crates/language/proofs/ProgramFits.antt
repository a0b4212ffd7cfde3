-- A function of a program that fits: what every function has it has, and its body is no longer than the program. Assumes nothing.
use Rattle.std.proofs.Common.{◌≡◌, ◌≤◌, Bool, true, false, List, [], ◌∷◌, length, sym, ap, ◌∙◌, arith, length-append}
use mathlib.Core.List.{nil≢cons}
use Rattle.std.proofs.lemmas.Bool.{and_parts}
use Rattle.language.specs.Basics.{pick, every, flat, same}
use Rattle.language.specs.Bytes.{Name}
use Rattle.language.specs.Expr.{Fun, Program}
use Rattle.language.specs.Meaning.{fun_of}
use Rattle.language.specs.Spelling.{expr_spelled, fun_spelled, program_spelled}
use Rattle.language.specs.Fits.{a_name, an_expr, a_fun, a_program}

-- what holds of every function of a program holds of the one that is found
pub found-every : (P : Fun → Bool) (p : Program) (x : Name) (f : Fun) (fs : List Fun) → every P p ≡ true → fun_of p x ≡ f ∷ fs → P f ≡ true
unfolding fun_of
found-every P [] x f fs h e = absurd (nil≢cons e)
found-every P (g ∷ gs) x f fs h e = go (same g.name x) e (λ found. found-every P gs x f fs (and_parts _ _ h).1 found)
  where
    go : (t : Bool) → pick t (g ∷ []) (fun_of gs x) ≡ f ∷ fs → (fun_of gs x ≡ f ∷ fs → P f ≡ true) → P f ≡ true
    go true e ih = let z : g ≡ f = cc in ap P (sym z) ∙ (and_parts _ _ h).0
    go false e ih = ih e

found-long : (p : Program) (x : Name) (f : Fun) (fs : List Fun) → fun_of p x ≡ f ∷ fs → length (fun_spelled f) ≤ length (flat fun_spelled p)
unfolding fun_of
found-long [] x f fs e = absurd (nil≢cons e)
found-long (g ∷ gs) x f fs e = grind (arith, length-append, found-long gs x f fs)

pub body_short : (p : Program) (x : Name) (f : Fun) (fs : List Fun) → fun_of p x ≡ f ∷ fs →
    length (expr_spelled f.body) ≤ length (program_spelled p)
body_short p x f fs e = grind (arith, length-append, found-long)

-- what fits has a name, few own names, which fit, and a body that fits
pub fun-fits : (f : Fun) → a_fun f ≡ true →
    (a_name f.name ≡ true) × (length f.params ≤ 16) × (every a_name f.params ≡ true) × (an_expr f.body ≡ true)
fun-fits f h = grind arith

pub fit_fun : (f : Fun) → a_name f.name ≡ true → length f.params ≤ 16 → every a_name f.params ≡ true → an_expr f.body ≡ true → a_fun f ≡ true
fit_fun f named few own body = grind arith

pub program_fits : (p : Program) → a_program p ≡ true →
    (length p ≤ 1024) × (every a_fun p ≡ true) × (length (program_spelled p) ≤ 65536)
program_fits p h = grind arith

pub fit_program : (p : Program) → length p ≤ 1024 → every a_fun p ≡ true → length (program_spelled p) ≤ 65536 → a_program p ≡ true
fit_program p few funs short = grind arith

-- the function that is found, of a program that fits
pub found-fits : (p : Program) (x : Name) (f : Fun) (fs : List Fun) → a_program p ≡ true → fun_of p x ≡ f ∷ fs →
    (length f.params ≤ 16) × (an_expr f.body ≡ true) × (length (expr_spelled f.body) ≤ 65536)
found-fits p x f fs fit found = grind (arith, found-every, body_short)
