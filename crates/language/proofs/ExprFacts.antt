-- Expressions are skipped where they stand, and where something is skipped expressions stand. Both by induction on how many heads may be
-- read, over all expressions that are still to come. Assumes nothing.
use Rattle.std.proofs.Common.{◌≡◌, ℕ, zero, suc, ◌+◌, ◌-◌, ◌≤◌, true, List, [], ◌∷◌, ◌++◌, length, take, drop, Some, sym, refl, ap, ◌∙◌, subst, add-zero, arith}
use Rattle.std.proofs.lemmas.List.{append_assoc, length-append, length-drop, length-take-le, take-append-drop}
use Rattle.std.proofs.lemmas.Bool.{and_parts, and_from}
use Rattle.language.specs.Basics.{every, flat}
use Rattle.language.specs.Bytes.{all_bytes}
use Rattle.language.specs.Expr.{Expr, parts}
use Rattle.language.specs.Spelling.{expr_spelled}
use Rattle.language.specs.Fits.{an_expr}
use Rattle.language.specs.Heads.{Head, head_of, arity, head_spelled}
use Rattle.language.specs.Reading.{Token, token, ends}
use Rattle.language.proofs.ListFacts.{every_take, every_drop, every_append, flat_append}
use Rattle.language.proofs.ReadingFacts.{ends-done, ends_short, ends_more, ends-turn, found_some, pick-found}
use Rattle.language.proofs.StandsFacts.{Stands, stands-first, stands-second, stands_join, stands_in}
use Rattle.language.proofs.HeadFacts.{head-stands, HeadThere, head-there}
use Rattle.language.proofs.PartsFacts.{spelled_nine}
use Rattle.language.proofs.NodeFacts.{spelled_node, parts-arity, head-fits, node_fits, Node, node, head-long}

-- an expression and those after it: its head, then its parts and those after it
pub spelled-next : (e : Expr) (es : List Expr) → flat expr_spelled (e ∷ es) ≡ head_spelled (head_of e) ++ flat expr_spelled (parts e ++ es)
spelled-next e es = grind (arith, spelled_node, append_assoc, flat_append)

pub spelled_count : (es : List Expr) → length es ≤ length (flat expr_spelled es)
spelled_count [] = omega arith
spelled_count (e ∷ es) = grind (arith, spelled_nine, length-append, spelled_count es)

-- where expressions stand, the first one's head stands, and after it its parts and the others
module _ (bs : List ℕ) (i : ℕ) (e : Expr) (es : List Expr) (s : Stands bs i (flat expr_spelled (e ∷ es))) where
  all-stands : Stands bs i (head_spelled (head_of e) ++ flat expr_spelled (parts e ++ es))
  all-stands = subst (Stands bs i) (spelled-next e es) s

  pub first-stands : Stands bs i (head_spelled (head_of e))
  first-stands = grind (arith, stands-first, all-stands)

  pub rest-stands : Stands bs (i + length (head_spelled (head_of e))) (flat expr_spelled (parts e ++ es))
  rest-stands = grind (arith, stands-second, all-stands)

pub ends_stand : (f : ℕ) (bs : List ℕ) (i : ℕ) (es : List Expr) → every an_expr es ≡ true → Stands bs i (flat expr_spelled es) → length bs - i ≤ f →
    ends (length es) f bs i ≡ Some (i + length (flat expr_spelled es))
ends_stand f bs i [] fit s l = ends-done bs i 0 f refl ∙ ap Some (sym (add-zero i))
ends_stand zero bs i (e ∷ es) fit s l = absurd (omega (arith, stands_in bs i (flat expr_spelled (e ∷ es)) (omega (arith, spelled_count (e ∷ es))) s, spelled_count (e ∷ es)))
ends_stand (suc f) bs i (e ∷ es) fit s l =
    ends_more bs i (suc (length es)) (length es) (suc f) f refl refl (token h j) (length (parts e ++ es)) (head-stands bs i h (head-fits e both.0).0 first)
    (omega (arith, length-append (parts e) es, parts-arity e)) room
    ∙ ends_stand f bs j (parts e ++ es) (every_append an_expr (parts e) es (head-fits e both.0).1 both.1) after (omega (arith, head-long h, stands_in bs i (head_spelled h) (head-long h) first))
    ∙ ap Some (omega (arith, ap length (spelled-next e es), length-append (head_spelled h) (flat expr_spelled (parts e ++ es))))
  where
    h : Head
    h = head_of e

    j : ℕ
    j = i + length (head_spelled (head_of e))

    both : (an_expr e ≡ true) × (every an_expr es ≡ true)
    both = and_parts _ _ fit

    first : Stands bs i (head_spelled (head_of e))
    first = first-stands bs i e es s

    after : Stands bs (i + length (head_spelled (head_of e))) (flat expr_spelled (parts e ++ es))
    after = rest-stands bs i e es s

    room : length (parts e ++ es) ≤ length bs - (i + length (head_spelled (head_of e)))
    room =
        omega (
          arith,
          ap length after,
          length-drop (i + length (head_spelled (head_of e))) bs,
          spelled_count (parts e ++ es),
          length-append (flat expr_spelled (parts e ++ es)) (drop (i + length (head_spelled (head_of e)) + length (flat expr_spelled (parts e ++ es))) bs),
        )

-- so many expressions stand there, and end there
pub record ExprsThere (bs : List ℕ) (i n j : ℕ) : Type 0 where
  pub exprs : List Expr
  pub count : length exprs ≡ n
  pub fit : every an_expr exprs ≡ true
  pub stands : Stands bs i (flat expr_spelled exprs)
  pub end : j ≡ i + length (flat expr_spelled exprs)

-- a head and the expressions after it: the first are its parts
module _ (bs : List ℕ) (i m j : ℕ) (t : Token) (h : HeadThere bs i t) (r : ExprsThere bs t.end (arity t.head + m) j) where
  its_parts : List Expr
  its_parts = take (arity t.head) r.exprs

  others : List Expr
  others = drop (arity t.head) r.exprs

  it : Node t.head its_parts
  unfolding its_parts
  it = node t.head its_parts (length-take-le (arity t.head) r.exprs (omega (arith, r.count)))

  spelled_it : flat expr_spelled (it.made ∷ others) ≡ head_spelled t.head ++ flat expr_spelled r.exprs
  unfolding its_parts others
  spelled_it = grind (arith, spelled-next, it, others, take-append-drop)

  fits_it : an_expr it.made ≡ true
  unfolding its_parts
  fits_it = grind (arith, node_fits, every_take)

  with_head : ExprsThere bs i (suc m) j
  unfolding others
  with_head =
      record {
        exprs = it.made ∷ others;
        count = omega (arith, length-drop (arity t.head) r.exprs, r.count);
        fit = and_from (an_expr it.made) (every an_expr others) fits_it (every_drop an_expr (arity t.head) r.exprs r.fit);
        stands =
            subst (Stands bs i) (sym spelled_it)
            (stands_join bs i (head_spelled t.head) (flat expr_spelled r.exprs) h.stands
            (subst (λ k. Stands bs k (flat expr_spelled r.exprs)) h.end r.stands));
        end = omega (arith, r.end, h.end, ap length spelled_it, length-append (head_spelled t.head) (flat expr_spelled r.exprs));
      }

pub ends_there : (f n : ℕ) (bs : List ℕ) (i j : ℕ) → all_bytes bs ≡ true → ends n f bs i ≡ Some j → ExprsThere bs i n j
ends_there f zero bs i j bytes e =
    let is : i ≡ j = cc (ends-done bs i 0 f refl) in
    record { exprs = []; count = refl; fit = refl; stands = ap (λ k. drop k bs) (sym (add-zero i)); end = omega arith }
ends_there zero (suc n) bs i j bytes e = absurd (cc (ends_short bs i (suc n) 0 (omega arith) refl))
ends_there (suc f) (suc n) bs i j bytes e =
    let got = found_some _ _ _ (sym (ends-turn n f bs i) ∙ e) in
    let t = got.0 in
    with_head bs i n j t (head-there bs i t bytes got.1)
    (ends_there f (arity t.head + n) bs t.end j bytes (pick-found _ _ _ got.2).1)
