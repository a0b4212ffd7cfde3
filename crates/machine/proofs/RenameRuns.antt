-- Renaming what a let gives, or a function's own name, ends as the model has it. The bytes of what stands are split around the name and what it is
-- given to; the walk's list and the bytes with the new name are those of the check at each place and of the program that it makes. Assumes nothing.
use Rattle.std.proofs.Common.{◌≡◌, ℕ, ◌+◌, ◌≤◌, Bool, true, false, not, ◌&&◌, ltb, leb, List, [], ◌∷◌, ◌++◌, length, take, Some, None, Option, sym, refl, ap, ◌∙◌, subst, ap₂, arith, le-leb}
use Rattle.std.proofs.lemmas.List.{append_assoc, length-append}
use Rattle.std.proofs.lemmas.Bool.{and_parts}
use Rattle.language.specs.Basics.{pick, each, flat}
use Rattle.language.specs.Bytes.{Name, eight, with_length}
use Rattle.language.specs.Expr.{Expr, num, var, bin, call, bind, choice, tell, Fun, Program}
use Rattle.language.specs.Meaning.{fun_of}
use Rattle.language.specs.Places.{at_place, put_at}
use Rattle.language.specs.Names.{has, distinct}
use Rattle.language.specs.Spelling.{expr_spelled, program_spelled}
use Rattle.language.specs.Fits.{a_name, an_expr}
use Rattle.language.specs.Heads.{head_of, head_spelled}
use Rattle.language.specs.Reading.{place_at}
use Rattle.language.specs.Contents.{own_names, find_function, body_of}
use Rattle.language.specs.Binders.{Binder, binder, let_of, let_at, own_binder}
use Rattle.language.specs.Splice.{names_replaced}
use Rattle.language.specs.Uses.{uses_of}
use Rattle.language.proofs.ByteFacts.{bytes_program}
use Rattle.language.proofs.StandsFacts.{Stands, length-eight}
use Rattle.language.proofs.FitFacts.{bind_fit}
use Rattle.language.proofs.PlaceFits.{at_fit}
use Rattle.language.proofs.ProgramFacts.{split_stands}
use Rattle.language.proofs.ProgramFits.{program_fits, found-fits}
use Rattle.language.proofs.PlaceLaws.{place_none}
use Rattle.language.proofs.ContentsLaws.{find_program_none, FoundIn, find_program_some}
use Rattle.language.proofs.ChangeLaws.{BodyAt, body_at, body_from}
use Rattle.language.proofs.PutLaws.{PutIn, put_program}
use Rattle.language.proofs.BinderLaws.{let-head, let_some, own_none, own_is, OwnIn, own_program}
use Rattle.model.specs.Command.{Command, rename_bind, rename_param, a_place, fits}
use Rattle.model.specs.State.{Plain, Turn, no, yes_with, now_is, set_fun, with_body, at_first_fun, of_some, at_expr}
use Rattle.model.specs.Rename.{bind_renamed, nth_name, put_name, param_renamed}
use Rattle.model.specs.Capture.{clear, under, others}
use Rattle.model.specs.Engine.{done, refused, Step, ran, refusal_end}
use Rattle.model.specs.Model.{turn}
use Rattle.model.proofs.SetFacts.{set_long}
use Rattle.model.proofs.StayFacts.{Sound, sound_stays}
use Rattle.model.proofs.CaptureChecks.{Split, split_at, none_at}
use Rattle.model.proofs.CaptureTurns.{bind-turn, param_turn}
use Rattle.model.specs.Renaming.{name_uses}
use Rattle.model.proofs.UsesFacts.{uses-clear}
use Rattle.model.proofs.SpliceFacts.{names_spliced}
use Rattle.memory.specs.Layout.{held, wiped}
use Rattle.memory.proofs.LayoutFacts.{held-long}
use Rattle.machine.specs.History.{changed}
use Rattle.machine.specs.Machine.{stepped}
use Rattle.machine.specs.Rename.{with_some, written_step, renamed_step, rename_bind_step, rename_param_step}
use Rattle.machine.proofs.HoldsFacts.{Holds, holds-wiped, holds-changed}
use Rattle.machine.proofs.Runs.{run, run_done, run_refused, Obeys, obeys_turn}

-- what the binder gives is called y, if the check at each place says so
with_pick : {A : Type 0} (t : Bool) (a : A) (s : Step) (g : A → Step) → with_some (pick t (Some a) None) s g ≡ pick t (g a) s
with_pick true a s g = refl
with_pick false a s g = refl

module _ (m : List ℕ) (x y : Name) (e : Expr) (before mid after : List ℕ) (fit : an_expr e ≡ true) (low : 1 ≤ length before)
    (is : held 0 m ≡ before ++ (with_length x ++ (mid ++ (expr_spelled e ++ after)))) where
  bytes : List ℕ
  bytes = before ++ (with_length x ++ (mid ++ (expr_spelled e ++ after)))

  begins : ℕ
  begins = length before + (length (with_length x) + length mid)

  expr_stands : Stands bytes begins (expr_spelled e)
  unfolding bytes begins
  expr_stands =
      subst (λ k. Stands bytes k (expr_spelled e))
      (length-append before (with_length x ++ mid) ∙ ap (λ n. length before + n) (length-append (with_length x) mid))
      (subst (λ l. Stands l (length (before ++ (with_length x ++ mid))) (expr_spelled e)) regrouped (split_stands (before ++ (with_length x ++ mid)) (expr_spelled e) after))
    where
      regrouped : (before ++ (with_length x ++ mid)) ++ (expr_spelled e ++ after) ≡ before ++ (with_length x ++ (mid ++ (expr_spelled e ++ after)))
      regrouped = simp append_assoc

  listed : uses_of bytes x y (length before) begins ≡ pick (clear x y false false e) (Some (length before ∷ name_uses x false begins e)) None
  unfolding bytes begins
  listed =
      uses-clear bytes x y (length before) begins e (omega (arith, ap length is, held-long 0 m)) fit expr_stands
      (omega (arith, low, length-append (eight (length x)) x, length-eight (length x)))

  renamed-at : renamed_step m y (binder x (length before) (length before + (length (with_length x) + length mid)))
      ≡ pick (clear x y false false e) (written_step m (before ++ (with_length y ++ (mid ++ (expr_spelled (under x y false e) ++ after))))) (stepped (wiped m) (refused 5))
  unfolding renamed_step bytes begins
  renamed-at =
      ap (λ l. with_some (uses_of l x y (length before) begins) (stepped (wiped m) (refused 5)) (λ us. written_step m (names_replaced l x y us))) is
      ∙ ap (λ o. with_some o (stepped (wiped m) (refused 5)) (λ us. written_step m (names_replaced bytes x y us))) listed
      ∙ with_pick (clear x y false false e) (length before ∷ name_uses x false begins e) (stepped (wiped m) (refused 5)) (λ us. written_step m (names_replaced bytes x y us))
      ∙ ap (λ l. pick (clear x y false false e) (written_step m l) (stepped (wiped m) (refused 5))) (names_spliced before mid after x y e)

-- how a command ends that refuses, or makes a program
module _ (w : Plain) (c : Command) (s : Step) where
  obeys_refused : (n : List ℕ) (k : ℕ) → refusal_end k ≡ k → turn w c ≡ no k w → s ≡ stepped n (refused k) → Holds n w → Obeys w c s
  obeys_refused n k q e is h = obeys_turn w c s (no k w) 0 n e (ap (λ t. run 0 t []) is ∙ run_refused 0 n k [] ∙ ap (ran n []) q) h

  module _ (m : List ℕ) (p : Program) (h : Holds m w) (fit : fits c ≡ true) (as_many : length p ≡ length w.now) where
    few : leb (length p) 1024 ≡ true
    few = le-leb (length p) 1024 (omega (arith, as_many, (program_fits w.now h.sound.now-fits).0))

    obeys_made : turn w c ≡ now_is w p → s ≡ written_step m (program_spelled p) → Obeys w c s
    obeys_made e is = go (leb (length (program_spelled p)) 65536) refl
      where
        next : Plain
        next = record { now = p; before = take 8 (w.now ∷ w.before) }

        tested : (u : Bool) → leb (length (program_spelled p)) 65536 ≡ u → turn w c ≡ pick u (yes_with [] next) (no 7 w)
        tested u q = e ∙ ap₂ (λ a b. pick (a && b) (yes_with [] next) (no 7 w)) few q

        stepped_so : (u : Bool) → leb (length (program_spelled p)) 65536 ≡ u → s ≡ pick u (stepped (changed m (program_spelled p)) done) (stepped (wiped m) (refused 7))
        stepped_so u q = is ∙ ap (λ b. pick b (stepped (changed m (program_spelled p)) done) (stepped (wiped m) (refused 7))) q

        go : (u : Bool) → leb (length (program_spelled p)) 65536 ≡ u → Obeys w c s
        go true q =
            obeys_turn w c s (yes_with [] next) 0 (changed m (program_spelled p)) (tested true q)
            (ap (λ t. run 0 t []) (stepped_so true q) ∙ run_done 0 (changed m (program_spelled p)) [])
            (holds-changed m w p (subst (λ (t : Turn). Sound t.next) (tested true q) (sound_stays w c fit h.sound)) h)
        go false q = obeys_refused (wiped m) 7 refl (tested false q) (stepped_so false q) (holds-wiped m w h)

    obeys_renamed : (t : Bool) → turn w c ≡ pick t (now_is w p) (no 5 w) → s ≡ pick t (written_step m (program_spelled p)) (stepped (wiped m) (refused 5)) → Obeys w c s
    obeys_renamed true e is = obeys_made e is
    obeys_renamed false e is = obeys_refused (wiped m) 5 refl e is (holds-wiped m w h)

-- functions of a program that stands have different names
names_apart : (m : List ℕ) (w : Plain) → Holds m w → distinct (each (λ f. f.name) w.now) ≡ true
names_apart m w h = (and_parts _ _ h.sound.now-fine).0

-- A LET
let-around : (l : List ℕ) (z : Name) (a b : Expr) (r : List ℕ) →
    l ++ (expr_spelled (bind z a b) ++ r) ≡ (l ++ 4 ∷ []) ++ (with_length z ++ (expr_spelled a ++ (expr_spelled b ++ r)))
unfolding expr_spelled
let-around l z a b r = simp append_assoc

abbrev at_let : List ℕ → List ℕ → Name → ℕ → Step
at_let bs m y i = with_some (let_at bs i) (stepped m (refused 6)) (λ l. renamed_step m y l)

abbrev in_body : List ℕ → List ℕ → List ℕ → Name → ℕ → Step
in_body bs m ks y b = with_some (place_at bs ks b) (stepped m (refused 3)) (λ i. at_let bs m y i)

abbrev in_function : List ℕ → List ℕ → List ℕ → Name → ℕ → Step
in_function bs m ks y o = with_some (body_of bs o) (stepped m (refused 3)) (λ b. in_body bs m ks y b)

module _ (m : List ℕ) (w : Plain) (x : Name) (ks : List ℕ) (y : Name) (fit : fits (rename_bind x ks y) ≡ true) (h : Holds m w) where
  new-name : a_name y ≡ true
  unfolding fits
  new-name = (and_parts (a_name x) (a_name y) (and_parts (a_name x && a_name y) (a_place ks) fit).0).1

  by_function : (o : Option ℕ) → find_function (program_spelled w.now) x ≡ o →
      rename_bind_step m x ks y ≡ with_some o (stepped m (refused 3)) (λ o. in_function (program_spelled w.now) m ks y o)
  unfolding rename_bind_step
  by_function o e =
      ap (λ bs. with_some (find_function bs x) (stepped m (refused 3)) (λ o. in_function bs m ks y o)) h.now-held
      ∙ ap (λ q. with_some q (stepped m (refused 3)) (λ o. in_function (program_spelled w.now) m ks y o)) e

  bind_nowhere : fun_of w.now x ≡ [] → turn w (rename_bind x ks y) ≡ no 3 w
  unfolding turn at_first_fun
  bind_nowhere e = ap (λ gs. at_first_fun w gs (λ g. at_expr w g ks (λ e. bind_renamed w g ks y e))) e

  module _ (f : Fun) (fs : List Fun) (is : fun_of w.now x ≡ f ∷ fs) where
    there : FoundIn w.now x f
    there = find_program_some w.now h.sound.now-fits x f fs is

    body : BodyAt (program_spelled w.now) there.place.at f
    body = body_at (program_spelled w.now) (bytes_program w.now h.sound.now-fits) there.place.at f there.place.fits there.place.stands

    by_place : (b : ℕ) → body_of (program_spelled w.now) there.place.at ≡ Some b → (o : Option ℕ) → place_at (program_spelled w.now) ks b ≡ o →
        rename_bind_step m x ks y ≡ with_some o (stepped m (refused 3)) (λ i. at_let (program_spelled w.now) m y i)
    by_place b begins o e =
        by_function (Some there.place.at) there.found
        ∙ ap (λ q. with_some q (stepped m (refused 3)) (λ b. in_body (program_spelled w.now) m ks y b)) begins
        ∙ ap (λ q. with_some q (stepped m (refused 3)) (λ i. at_let (program_spelled w.now) m y i)) e

    turn_at : (cs : List Expr) → at_place f.body ks ≡ cs → turn w (rename_bind x ks y) ≡ of_some w cs (λ e. bind_renamed w f ks y e)
    unfolding turn at_first_fun
    turn_at cs e =
        ap (λ gs. at_first_fun w gs (λ g. at_expr w g ks (λ e. bind_renamed w g ks y e))) is ∙ ap (λ ds. of_some w ds (λ e. bind_renamed w f ks y e)) e

    module _ (c : Expr) (cs : List Expr) (stands : at_place f.body ks ≡ c ∷ cs) where
      put : PutIn w.now there.place.at f ks c
      put = put_program w.now h.sound.now-fits x f there ks c cs stands (names_apart m w h)

      expr_fits : an_expr c ≡ true
      expr_fits = at_fit ks f.body c cs body.fits stands

      stands_here : Stands (program_spelled w.now) (length put.before) (expr_spelled c)
      stands_here = subst (λ bs. Stands bs (length put.before) (expr_spelled c)) (sym put.split) (split_stands put.before (expr_spelled c) put.after)

      by_let : (o : Option Binder) → let_at (program_spelled w.now) (length put.before) ≡ o →
          rename_bind_step m x ks y ≡ with_some o (stepped m (refused 6)) (λ l. renamed_step m y l)
      by_let o e =
          by_place put.body put.body_is (Some (length put.before)) put.at_is ∙ ap (λ q. with_some q (stepped m (refused 6)) (λ l. renamed_step m y l)) e

      let_here : let_at (program_spelled w.now) (length put.before)
          ≡ let_of (program_spelled w.now) (length put.before) (length put.before + length (head_spelled (head_of c))) (head_of c)
      let_here = let-head (program_spelled w.now) (bytes_program w.now h.sound.now-fits) (length put.before) c expr_fits stands_here

      no-let : let_at (program_spelled w.now) (length put.before) ≡ None → bind_renamed w f ks y c ≡ no 6 w → Obeys w (rename_bind x ks y) (rename_bind_step m x ks y)
      unfolding of_some
      no-let e u = obeys_refused w (rename_bind x ks y) (rename_bind_step m x ks y) m 6 refl (turn_at (c ∷ cs) stands ∙ u) (by_let None e) h

    is_let : (z : Name) (a b : Expr) (cs : List Expr) → at_place f.body ks ≡ bind z a b ∷ cs → Obeys w (rename_bind x ks y) (rename_bind_step m x ks y)
    is_let z a b cs stands =
        obeys_renamed w (rename_bind x ks y) (rename_bind_step m x ks y) m new h fit (set_long w.now f.name (with_body f (put_at f.body ks (bind y a (under z y false b)))))
        (clear z y false false b) (bind-turn w x f fs h.sound.now-fits is y new-name ks z a b cs stands) all
      where
        new : Program
        new = set_fun w.now f.name (with_body f (put_at f.body ks (bind y a (under z y false b))))

        at_let_is : PutIn w.now there.place.at f ks (bind z a b)
        at_let_is = put (bind z a b) cs stands

        front_long : length at_let_is.before + 1 ≡ length (at_let_is.before ++ 4 ∷ [])
        front_long = sym (length-append at_let_is.before (4 ∷ []))

        parts : (a_name z ≡ true) × (an_expr a ≡ true) × (an_expr b ≡ true)
        parts = bind_fit z a b (expr_fits (bind z a b) cs stands)

        all : rename_bind_step m x ks y ≡ pick (clear z y false false b) (written_step m (program_spelled new)) (stepped (wiped m) (refused 5))
        all =
            by_let (bind z a b) cs stands _
            (let_some (program_spelled w.now) (bytes_program w.now h.sound.now-fits) (length at_let_is.before) z a b (expr_fits (bind z a b) cs stands) (stands_here (bind z a b) cs stands))
            ∙ ap (λ k. renamed_step m y (binder z k (k + (length (with_length z) + length (expr_spelled a))))) front_long
            ∙ renamed-at m z y b (at_let_is.before ++ 4 ∷ []) (expr_spelled a) at_let_is.after parts.2 (omega (arith, front_long))
            (h.now-held ∙ at_let_is.split ∙ let-around at_let_is.before z a b at_let_is.after)
            ∙ ap (λ l. pick (clear z y false false b) (written_step m l) (stepped (wiped m) (refused 5)))
            (sym (at_let_is.put (bind y a (under z y false b)) ∙ let-around at_let_is.before y a (under z y false b) at_let_is.after))

    by_kind : (c : Expr) (cs : List Expr) → at_place f.body ks ≡ c ∷ cs → Obeys w (rename_bind x ks y) (rename_bind_step m x ks y)
    unfolding head_of bind_renamed
    by_kind (num n) cs e = no-let (num n) cs e (let_here (num n) cs e) refl
    by_kind (var z) cs e = no-let (var z) cs e (let_here (var z) cs e) refl
    by_kind (bin k a b) cs e = no-let (bin k a b) cs e (let_here (bin k a b) cs e) refl
    by_kind (call g es) cs e = no-let (call g es) cs e (let_here (call g es) cs e) refl
    by_kind (bind z a b) cs e = is_let z a b cs e
    by_kind (choice c a b) cs e = no-let (choice c a b) cs e (let_here (choice c a b) cs e) refl
    by_kind (tell a) cs e = no-let (tell a) cs e (let_here (tell a) cs e) refl

    by_found : (cs : List Expr) → at_place f.body ks ≡ cs → Obeys w (rename_bind x ks y) (rename_bind_step m x ks y)
    unfolding of_some
    by_found [] e =
        obeys_refused w (rename_bind x ks y) (rename_bind_step m x ks y) m 3 refl (turn_at [] e)
        (by_place (body_from there.place.at f) body.at_is None (place_none (program_spelled w.now) ks (body_from there.place.at f) f.body body.fits body.stands e)) h
    by_found (c ∷ cs) e = by_kind c cs e

  by_functions : (fs : List Fun) → fun_of w.now x ≡ fs → Obeys w (rename_bind x ks y) (rename_bind_step m x ks y)
  by_functions [] e =
      obeys_refused w (rename_bind x ks y) (rename_bind_step m x ks y) m 3 refl (bind_nowhere e) (by_function None (find_program_none w.now h.sound.now-fits x e)) h
  by_functions (f ∷ fs) e = by_found f fs e (at_place f.body ks) refl

pub obeys_rename_bind : (m : List ℕ) (w : Plain) (x : Name) (ks : List ℕ) (y : Name) → fits (rename_bind x ks y) ≡ true → Holds m w →
    Obeys w (rename_bind x ks y) (rename_bind_step m x ks y)
obeys_rename_bind m w x ks y fit h = by_functions m w x ks y fit h (fun_of w.now x) refl

-- AN OWN NAME
abbrev apart_step : List ℕ → List Name → ℕ → Name → Binder → Step
apart_step m ps i y b = pick (has (others ps i) y) (stepped m (refused 5)) (renamed_step m y b)

abbrev at_own : List ℕ → List ℕ → ℕ → Name → ℕ → Step
at_own bs m i y o = with_some (own_binder bs o i) (stepped m (refused 3)) (λ b. apart_step m (own_names bs o) i y b)

module _ (m : List ℕ) (w : Plain) (x : Name) (i : ℕ) (y : Name) (fit : fits (rename_param x i y) ≡ true) (h : Holds m w) where
  own_new : a_name y ≡ true
  unfolding fits
  own_new = (and_parts (a_name x) (a_name y) (and_parts (a_name x && a_name y) (ltb i 16) fit).0).1

  own-function : (o : Option ℕ) → find_function (program_spelled w.now) x ≡ o →
      rename_param_step m x i y ≡ with_some o (stepped m (refused 3)) (λ o. at_own (program_spelled w.now) m i y o)
  unfolding rename_param_step
  own-function o e =
      ap (λ bs. with_some (find_function bs x) (stepped m (refused 3)) (λ o. at_own bs m i y o)) h.now-held
      ∙ ap (λ q. with_some q (stepped m (refused 3)) (λ o. at_own (program_spelled w.now) m i y o)) e

  own_turn : (fs : List Fun) → fun_of w.now x ≡ fs → turn w (rename_param x i y) ≡ at_first_fun w fs (λ g. param_renamed w g i y (nth_name g.params i))
  unfolding turn
  own_turn fs e = ap (λ gs. at_first_fun w gs (λ g. param_renamed w g i y (nth_name g.params i))) e

  module _ (f : Fun) (fs : List Fun) (is : fun_of w.now x ≡ f ∷ fs) where
    place : FoundIn w.now x f
    place = find_program_some w.now h.sound.now-fits x f fs is

    own-step : (o : Option Binder) → own_binder (program_spelled w.now) place.place.at i ≡ o →
        rename_param_step m x i y ≡ with_some o (stepped m (refused 3)) (λ b. apart_step m f.params i y b)
    own-step o e =
        own-function (Some place.place.at) place.found
        ∙ ap₂ (λ q ps. with_some q (stepped m (refused 3)) (λ b. apart_step m ps i y b)) e
        (own_is (program_spelled w.now) (bytes_program w.now h.sound.now-fits) place.place.at f place.place.fits place.place.stands)

    own_missing : nth_name f.params i ≡ [] → Obeys w (rename_param x i y) (rename_param_step m x i y)
    unfolding at_first_fun param_renamed
    own_missing e =
        obeys_refused w (rename_param x i y) (rename_param_step m x i y) m 3 refl (own_turn (f ∷ fs) is ∙ ap (param_renamed w f i y) e)
        (own-step None
        (own_none (program_spelled w.now) (bytes_program w.now h.sound.now-fits) place.place.at f place.place.fits place.place.stands i (none_at f.params i e)))
        h

    module _ (z : Name) (zs : List Name) (named : nth_name f.params i ≡ z ∷ zs) where
      parted : Split f.params i z
      parted = split_at f.params i z zs named

      own : OwnIn w.now place.place.at f parted.left z parted.right
      own = own_program w.now h.sound.now-fits x f place parted.left z parted.right parted.whole (names_apart m w h)

      new-fun : Fun
      new-fun = record { name = f.name; params = put_name f.params i y; body = under z y false f.body }

      new-spelled : program_spelled (set_fun w.now f.name new-fun)
          ≡ own.before ++ (with_length y ++ (flat with_length parted.right ++ (expr_spelled (under z y false f.body) ++ own.after)))
      unfolding new-fun
      new-spelled =
          ap (λ ps. program_spelled (set_fun w.now f.name (record { name = f.name; params = ps; body = under z y false f.body }))) (parted.put y)
          ∙ own.put y (under z y false f.body)

      gives : Binder
      gives = binder z (length own.before) (length own.before + (length (with_length z) + length (flat with_length parted.right)))

      own_apart : (t : Bool) → has (others f.params i) y ≡ t → rename_param_step m x i y ≡ pick t (stepped m (refused 5)) (renamed_step m y gives)
      unfolding gives
      own_apart t e = own-step _ (ap (own_binder (program_spelled w.now) place.place.at) (sym parted.place) ∙ own.at_is) ∙ ap (λ b. pick b (stepped m (refused 5)) (renamed_step m y gives)) e

      by_others : (t : Bool) → has (others f.params i) y ≡ t → Obeys w (rename_param x i y) (rename_param_step m x i y)
      unfolding new-fun gives
      by_others true e =
          obeys_refused w (rename_param x i y) (rename_param_step m x i y) m 5 refl
          (param_turn w x f fs h.sound.now-fits is y own_new h.sound.now-fine i z zs named
          ∙ ap (λ t. pick (not t && clear z y false false f.body) (now_is w (set_fun w.now f.name new-fun)) (no 5 w)) e)
          (own_apart true e) h
      by_others false e =
          obeys_renamed w (rename_param x i y) (rename_param_step m x i y) m (set_fun w.now f.name new-fun) h fit (set_long w.now f.name new-fun) (clear z y false false f.body)
          (param_turn w x f fs h.sound.now-fits is y own_new h.sound.now-fine i z zs named
          ∙ ap (λ t. pick (not t && clear z y false false f.body) (now_is w (set_fun w.now f.name new-fun)) (no 5 w)) e)
          (own_apart false e
          ∙ renamed-at m z y f.body own.before (flat with_length parted.right) own.after (found-fits w.now x f fs h.sound.now-fits is).1 own.low
          (h.now-held ∙ own.split)
          ∙ ap (λ l. pick (clear z y false false f.body) (written_step m l) (stepped (wiped m) (refused 5))) (sym new-spelled))

    by_own : (zs : List Name) → nth_name f.params i ≡ zs → Obeys w (rename_param x i y) (rename_param_step m x i y)
    by_own [] e = own_missing e
    by_own (z ∷ zs) e = by_others z zs e (has (others f.params i) y) refl

  own_functions : (fs : List Fun) → fun_of w.now x ≡ fs → Obeys w (rename_param x i y) (rename_param_step m x i y)
  unfolding at_first_fun
  own_functions [] e =
      obeys_refused w (rename_param x i y) (rename_param_step m x i y) m 3 refl (own_turn [] e) (own-function None (find_program_none w.now h.sound.now-fits x e)) h
  own_functions (f ∷ fs) e = by_own f fs e (nth_name f.params i) refl

pub obeys_rename_param : (m : List ℕ) (w : Plain) (x : Name) (i : ℕ) (y : Name) → fits (rename_param x i y) ≡ true → Holds m w →
    Obeys w (rename_param x i y) (rename_param_step m x i y)
obeys_rename_param m w x i y fit h = own_functions m w x i y fit h (fun_of w.now x) refl
