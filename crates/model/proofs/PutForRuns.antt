-- What ends put for a name's uses: what comes of it runs as before, with the name no longer given. The idea: wherever the name is used, what is
-- put there ends with the name's value, since none of its own names is given anew on the way. Assumes nothing.
use Rattle.std.proofs.Common.{arith, ◌≡◌, ℕ, Bool, true, false, not, ◌&&◌, List, [], ◌∷◌, sym, refl, ap, ◌∙◌, subst}
use mathlib.Core.Path.{fun_ext}
use Rattle.std.proofs.lemmas.Bool.{and_from}
use borrow.Author.Tests.{clash}
use Rattle.language.specs.Basics.{pick, same}
use Rattle.language.specs.Bytes.{Name}
use Rattle.language.specs.Expr.{Expr, num, var, bin, call, bind, choice, tell, Exprs, no_exprs, expr_and, Program}
use Rattle.language.specs.Meaning.{came, Bound, look, eval}
use Rattle.language.specs.Names.{has, joined, less, free, free_all}
use Rattle.language.proofs.NameFacts.{same_eq, same_sym, or_left_true, or_right_true, has-joined, has-less}
use Rattle.language.proofs.FreeFacts.{eval_agree, free_matter}
use Rattle.language.proofs.Depth.{Under}
use Rattle.language.proofs.Reach.{Reach, Run}
use Rattle.language.proofs.AlikeRuns.{AlikeRun, AlikeRuns, alike-eval, alike-num, alike-var, alike-bin, alike-call, alike-bind, alike-choice, alike-tell, alikes_none, alikes_and}
use Rattle.model.specs.Inline.{both_of, and_exprs, call_of, tell_of, cond_of, put_for, put_for_all}
use Rattle.model.proofs.QuietFacts.{Ends, ends-under, var-ends}

-- what a list has, if it has any
abbrev pub First : {A : Type 0} → (A → Type 0) → List A → Type 0
First P [] = Unit {0}
First P (a ∷ as₁) = P a

pub first-all : {A : Type 0} (P : ℕ → A → Type 0) (l : List A) → ((w : ℕ) → First (P w) l) → First (λ a. (w : ℕ) → P w a) l
first-all P [] h = tt
first-all P (a ∷ as₁) h = h

pub first-map : {A : Type 0} (P Q : A → Type 0) → ((a : A) → P a → Q a) → (l : List A) → First P l → First Q l
first-map P Q h [] p = tt
first-map P Q h (a ∷ as₁) p = h a p

pub first-at : {A : Type 0} (P : A → Type 0) (l : List A) (a : A) (as₁ : List A) → l ≡ a ∷ as₁ → First P l → P a
first-at P l a as₁ e h = subst (First P) e h

pub both_first : (P Q R : Expr → Type 0) (f : Expr → Expr → Expr) → ((a b : Expr) → P a → Q b → R (f a b)) → (l m : List Expr) → First P l → First Q m →
    First R (both_of l m f)
both_first P Q R f h [] m p q = tt
both_first P Q R f h (a ∷ as₁) [] p q = tt
both_first P Q R f h (a ∷ as₁) (b ∷ bs) p q = h a b p q

module _ (r : Program) (bs cs : List Bound) where
  call_run : (f : Name) (es : Exprs) (l : List Exprs) → First (AlikeRuns r bs es cs) l → First (AlikeRun r bs (call f es) cs) (call_of f l)
  call_run f es [] h = tt
  call_run f es (ds ∷ dss) h = alike-call r bs cs f es ds h

  tell_run : (d : Expr) (l : List Expr) → First (AlikeRun r bs d cs) l → First (AlikeRun r bs (tell d) cs) (tell_of l)
  tell_run d [] h = tt
  tell_run d (e ∷ es) h = alike-tell r bs cs d e h

  choice_run : (c d e : Expr) (l m n : List Expr) → First (AlikeRun r bs c cs) l → First (AlikeRun r bs d cs) m → First (AlikeRun r bs e cs) n →
      First (AlikeRun r bs (choice c d e) cs) (cond_of l m n)
  choice_run c d e [] m n h i j = tt
  choice_run c d e (a ∷ as₁) m n h i j =
      both_first (AlikeRun r bs d cs) (AlikeRun r bs e cs) (AlikeRun r bs (choice c d e) cs) (λ k o. choice a k o)
      (λ k o p q. alike-choice r bs cs c d e a k o h p q) m n i j

  and_run : (e : Expr) (es : Exprs) (l : List Expr) (m : List Exprs) → First (AlikeRun r bs e cs) l → First (AlikeRuns r bs es cs) m →
      First (AlikeRuns r bs (expr_and e es) cs) (and_exprs l m)
  and_run e es [] m h k = tt
  and_run e es (a ∷ as₁) [] h k = tt
  and_run e es (a ∷ as₁) (d ∷ ds) h k = alikes_and r bs cs e a es d h k

-- two that end with the same number
ends-alike : (r : Program) (bs cs : List Bound) (a b : Expr) (v : ℕ) → Ends r bs a v → Ends r cs b v → AlikeRun r bs a cs b
ends-alike r bs cs a b v s t n = (go bs cs a b s t, go cs bs b a t s)
  where
    go : (bs cs : List Bound) (a b : Expr) → Ends r bs a v → Ends r cs b v → Run n r bs a r cs b
    go bs cs a b s t =
        record { from = t.from; under = λ k l. subst (Under (eval n r bs a)) (sym (t.under k l)) (ends-under r bs a v s n) }

-- runs as e does under a let of z, whatever that gives
abbrev Beneath : Program → Name → Expr → List Bound → List Bound → Expr → Type 0
Beneath r z e bs cs c = (w : ℕ) → AlikeRun r (record { name = z; value = w } ∷ bs) e (record { name = z; value = w } ∷ cs) c

-- bs gives x, and cs does not; where x is used, a ends in cs with what x has in bs
pub record Stands (r : Program) (x : Name) (a : Expr) (v : ℕ) (fs : List Name) (bs cs : List Bound) : Type 0 where
  pub here : look bs x ≡ v ∷ []
  pub others : (z : Name) → same x z ≡ false → look bs z ≡ look cs z
  pub ends : has fs x ≡ true → Ends r cs a v

module _ (r : Program) (x : Name) (a : Expr) (v : ℕ) where
  stands_left : (fs gs : List Name) (bs cs : List Bound) → Stands r x a v (joined fs gs) bs cs → Stands r x a v fs bs cs
  stands_left fs gs bs cs s =
      record { here = s.here; others = s.others; ends = λ h. s.ends (has-joined fs gs x ∙ or_left_true (has fs x) (has gs x) h) }

  stands_right : (fs gs : List Name) (bs cs : List Bound) → Stands r x a v (joined fs gs) bs cs → Stands r x a v gs bs cs
  stands_right fs gs bs cs s =
      record { here = s.here; others = s.others; ends = λ h. s.ends (has-joined fs gs x ∙ or_right_true (has fs x) (has gs x) h) }

  -- under another bind, whose name isn't one of a's where x is used
  stands-under : (z : Name) (w : ℕ) (fs : List Name) (bs cs : List Bound) → same x z ≡ false → (has (free a) z && has fs x) ≡ false →
      Stands r x a v (less z fs) bs cs → Stands r x a v fs (record { name = z; value = w } ∷ bs) (record { name = z; value = w } ∷ cs)
  unfolding look
  stands-under z w fs bs cs d apart s = record { here = here_still; others = others_still; ends = ends_still }
    where
      not_it : same z x ≡ false
      not_it = same_sym z x ∙ d

      here_still : pick (same z x) (w ∷ []) (look bs x) ≡ v ∷ []
      here_still = grind (arith, not_it)

      others_still : (y : Name) → same x y ≡ false → pick (same z y) (w ∷ []) (look bs y) ≡ pick (same z y) (w ∷ []) (look cs y)
      others_still y e = ap (pick (same z y) (w ∷ [])) (s.others y e)

      free_of : (t : Bool) → has (free a) z ≡ t → has fs x ≡ true → (t && has fs x) ≡ false → has (free a) z ≡ false
      free_of true e h k = absurd (clash (sym k ∙ h))
      free_of false e h k = e

      ends_still : has fs x ≡ true → Ends r (record { name = z; value = w } ∷ cs) a v
      ends_still h =
          subst (λ G. Reach (came v []) G) (fun_ext λ m. sym (free_matter r cs z w m a (free_of (has (free a) z) refl h apart)))
          (s.ends (has-less z fs x ∙ and_from _ _ (ap not not_it) h))

  -- where x is given anew, what stands there stays
  same-under : (z : Name) (w : ℕ) (fs : List Name) (bs cs : List Bound) (e : Expr) → same x z ≡ true → Stands r x a v fs bs cs →
      AlikeRun r (record { name = z; value = w } ∷ bs) e (record { name = z; value = w } ∷ cs) e
  unfolding look
  same-under z w fs bs cs e d s =
      alike-eval r (record { name = z; value = w } ∷ bs) (record { name = z; value = w } ∷ cs) e e
      (λ n. eval_agree n r (record { name = z; value = w } ∷ bs) (record { name = z; value = w } ∷ cs) e (λ y h. go y (same z y) refl))
    where
      go : (y : Name) (t : Bool) → same z y ≡ t → pick t (w ∷ []) (look bs y) ≡ pick t (w ∷ []) (look cs y)
      go y true k = refl
      go y false k = s.others y (ap (λ u. same u y) (same_eq x z d) ∙ k)

  use_run : (z : Name) (bs cs : List Bound) → Stands r x a v (z ∷ []) bs cs → (t : Bool) → same x z ≡ t → AlikeRun r bs (var z) cs (pick t a (var z))
  use_run z bs cs s true e =
      ends-alike r bs cs (var z) a v (var-ends r bs z v (ap (look bs) (sym (same_eq x z e)) ∙ s.here)) (s.ends (or_left_true (same x z) false e))
  use_run z bs cs s false e = alike-var r bs cs z z (s.others z e)

  bind_run : (z : Name) (d e : Expr) (bs cs : List Bound) → Stands r x a v (free (bind z d e)) bs cs →
      First (AlikeRun r bs d cs) (put_for x a d) →
      (same x z ≡ false → (has (free a) z && has (free e) x) ≡ false → (w : ℕ) →
      First (AlikeRun r (record { name = z; value = w } ∷ bs) e (record { name = z; value = w } ∷ cs)) (put_for x a e)) →
      First (AlikeRun r bs (bind z d e) cs) (put_for x a (bind z d e))
  unfolding put_for
  bind_run z d e bs cs s in_d in_e = go (same x z) refl (has (free a) z && has (free e) x) refl
    where
      whole : (l : List Expr) → First (Beneath r z e bs cs) l → First (AlikeRun r bs (bind z d e) cs) (both_of (put_for x a d) l (λ c k. bind z c k))
      whole l h =
          both_first (AlikeRun r bs d cs) (Beneath r z e bs cs) (AlikeRun r bs (bind z d e) cs) (λ c k. bind z c k)
          (λ c k p q. alike-bind r bs cs z z d e c k p q) (put_for x a d) l in_d h

      go : (t : Bool) → same x z ≡ t → (u : Bool) → (has (free a) z && has (free e) x) ≡ u →
          First (AlikeRun r bs (bind z d e) cs)
          (pick t (both_of (put_for x a d) (e ∷ []) (λ c k. bind z c k)) (pick u [] (both_of (put_for x a d) (put_for x a e) (λ c k. bind z c k))))
      go true h u k = whole (e ∷ []) (λ w. same-under z w (free (bind z d e)) bs cs e h s)
      go false h true k = tt
      go false h false k = whole (put_for x a e) (first-all _ (put_for x a e) (in_e h k))

  mutual
    unfolding put_for put_for_all free free_all

    pub put_run : (e : Expr) (bs cs : List Bound) → Stands r x a v (free e) bs cs → First (AlikeRun r bs e cs) (put_for x a e)
    put_run (num n) bs cs s = alike-num r bs cs n
    put_run (var z) bs cs s = use_run z bs cs s (same x z) refl
    put_run (bin k d e) bs cs s =
        both_first (AlikeRun r bs d cs) (AlikeRun r bs e cs) (AlikeRun r bs (bin k d e) cs) (λ c b. bin k c b)
        (λ c b p q. alike-bin r bs cs k d e c b p q) (put_for x a d) (put_for x a e) (put_run d bs cs (stands_left (free d) (free e) bs cs s))
        (put_run e bs cs (stands_right (free d) (free e) bs cs s))
    put_run (call f es) bs cs s = call_run r bs cs f es (put_for_all x a es) (put_runs es bs cs s)
    put_run (bind z d e) bs cs s =
        bind_run z d e bs cs s (put_run d bs cs (stands_left (free d) (less z (free e)) bs cs s))
        (λ h k w. put_run e (record { name = z; value = w } ∷ bs) (record { name = z; value = w } ∷ cs)
        (stands-under z w (free e) bs cs h k (stands_right (free d) (less z (free e)) bs cs s)))
    put_run (choice c d e) bs cs s =
        choice_run r bs cs c d e (put_for x a c) (put_for x a d) (put_for x a e)
        (put_run c bs cs (stands_left (free c) (free d) bs cs (stands_left (joined (free c) (free d)) (free e) bs cs s)))
        (put_run d bs cs (stands_right (free c) (free d) bs cs (stands_left (joined (free c) (free d)) (free e) bs cs s)))
        (put_run e bs cs (stands_right (joined (free c) (free d)) (free e) bs cs s))
    put_run (tell d) bs cs s = tell_run r bs cs d (put_for x a d) (put_run d bs cs s)

    put_runs : (es : Exprs) (bs cs : List Bound) → Stands r x a v (free_all es) bs cs → First (AlikeRuns r bs es cs) (put_for_all x a es)
    put_runs no_exprs bs cs s = alikes_none r bs cs
    put_runs (expr_and e es) bs cs s =
        and_run r bs cs e es (put_for x a e) (put_for_all x a es) (put_run e bs cs (stands_left (free e) (free_all es) bs cs s))
        (put_runs es bs cs (stands_right (free e) (free_all es) bs cs s))
