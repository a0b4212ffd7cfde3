-- Turns that put something at a place of a function: what runs there as what stood there leaves what the program means as it was.
-- Assumes nothing.
use Rattle.std.proofs.Common.{◌≡◌, ℕ, List, ◌∷◌, ap, ◌∙◌}
use Rattle.language.specs.Bytes.{Name}
use Rattle.language.specs.Expr.{Expr, Fun, Program}
use Rattle.language.specs.Meaning.{Bound, fun_of}
use Rattle.language.specs.Places.{at_place}
use Rattle.language.proofs.AlikeRuns.{AlikeRun}
use Rattle.model.specs.State.{Plain, Turn, at_fun, at_expr, put_in}
use Rattle.model.specs.Extract.{given_at}
use Rattle.model.proofs.SetFacts.{found_name}
use Rattle.model.proofs.Kept.{Kept, kept-now, kept-fun, kept_expr}
use Rattle.model.proofs.PlaceMeaning.{Given, place_mean}

-- what is done at a place of a function that there is
pub kept_at : (w : Plain) (x : Name) (ks : List ℕ) (h : Fun → Expr → Turn) →
    ((f : Fun) (fs : List Fun) (e : Expr) (es : List Expr) → fun_of w.now f.name ≡ f ∷ fs → at_place f.body ks ≡ e ∷ es → Kept w (h f e)) →
    Kept w (at_fun w x (λ f. at_expr w f ks (h f)))
kept_at w x ks h k =
    kept-fun w x (λ f. at_expr w f ks (h f))
    (λ f fs found. kept_expr w f ks (h f) (λ e es stands. k f fs e es (ap (fun_of w.now) (found_name w.now x f fs found) ∙ found) stands))

-- the two run alike in every program, where these names are given
abbrev pub AlikeGiven : List Name → Expr → Expr → Type 0
AlikeGiven xs a b = (r : Program) (ds : List Bound) → Given xs ds → AlikeRun r ds a ds b

pub kept_put : (w : Plain) (f : Fun) (fs : List Fun) (ks : List ℕ) (old : Expr) (os : List Expr) (new : Expr) → fun_of w.now f.name ≡ f ∷ fs →
    at_place f.body ks ≡ old ∷ os → AlikeGiven (given_at f.params f.body ks) old new → Kept w (put_in w f ks new)
kept_put w f fs ks old os new found stands alike =
    kept-now w _
    (λ small. place_mean w.now f fs found ks old os new stands (λ n k l ds g. (alike _ ds g k).0) (λ n k l ds g. (alike w.now ds g k).1))
