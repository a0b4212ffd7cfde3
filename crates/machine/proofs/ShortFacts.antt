-- No step shows more than 65,536 bytes: a row is a part of the current program. Assumes nothing.
use Rattle.std.proofs.Common.{ℕ, ◌+◌, ◌-◌, ◌≤◌, Bool, true, false, eqb, ltb, List, length, drop, set, Some, None, Option, arith}
use Rattle.std.specs.List.{between}
use Rattle.std.proofs.lemmas.List.{length-take, length-drop}
use Rattle.language.specs.Basics.{pick}
use Rattle.language.specs.Bytes.{Name}
use Rattle.language.specs.Contents.{is_fine, find_function}
use Rattle.language.specs.Reading.{found, name_end, fun_end}
use Rattle.model.specs.Command.{load, show, names, rename_bind, rename_param, rename_fun, extract, inline_bind, inline_call, turn_cond, drop_fun, undo}
use Rattle.model.specs.Engine.{said, done, refused, Step}
use Rattle.model.specs.Reading.{Ask, loading, asking, asked}
use Rattle.memory.specs.Layout.{mark, older, held}
use Rattle.memory.proofs.LayoutFacts.{held-long}
use Rattle.machine.specs.History.{loaded, gone_back}
use Rattle.machine.specs.Machine.{stepped, table_cleared, load_step, row_shown, show_step, row, name_row, name_shown, names_step, undo_step, ask_step, obeyed, gone_on, by_event}
use Rattle.machine.proofs.StepFacts.{Short}

-- no row is longer than the program in which it lies
between_short : (i j : ℕ) (bs : List ℕ) → length bs ≤ 65536 → length (between i j bs) ≤ 65536
between_short i j bs h = omega (arith, length-take (j - i) (drop i bs), length-drop i bs)

pick_short : (t : Bool) (s u : Step) → Short s.act → Short u.act → Short (pick t s u).act
pick_short true s u a b = a
pick_short false s u a b = b

module _ (m : List ℕ) where
  show_short : (x : Name) → Short (show_step m x).act
  unfolding show_step
  show_short x = by_start (find_function (held 0 m) x)
    where
      by_end : (i : ℕ) (o : Option ℕ) → Short (row_shown m (found o (λ j. Some (between i j (held 0 m))))).act
      by_end i None = tt
      by_end i (Some j) = between_short i j (held 0 m) (held-long 0 m)

      by_start : (o : Option ℕ) → Short (row_shown m (found o (λ i. found (fun_end (held 0 m) i) (λ j. Some (between i j (held 0 m)))))).act
      by_start None = tt
      by_start (Some i) = by_end i (fun_end (held 0 m) i)

  names_short : (i : ℕ) → Short (names_step m i).act
  unfolding names_step
  names_short i = pick_short (ltb i (length (held 0 m))) (name_shown m (name_row (held 0 m) i)) (stepped (set m 0 0) done) (by_name (name_end (held 0 m) i)) tt
    where
      by_end : (j : ℕ) (o : Option ℕ) → Short (name_shown m (found o (λ k. Some (row (between (i + 8) j (held 0 m)) k)))).act
      by_end j None = tt
      by_end j (Some k) = between_short (i + 8) j (held 0 m) (held-long 0 m)

      by_name : (o : Option ℕ) → Short (name_shown m (found o (λ j. found (fun_end (held 0 m) i) (λ k. Some (row (between (i + 8) j (held 0 m)) k))))).act
      by_name None = tt
      by_name (Some j) = by_end j (fun_end (held 0 m) i)

  undo_short : Short (undo_step m).act
  unfolding undo_step
  undo_short = pick_short (eqb (older m) 0) (stepped m (refused 9)) (stepped (gone_back m) done) tt tt

  load_short : (bs : List ℕ) → Short (load_step m bs).act
  unfolding load_step
  load_short bs = pick_short (is_fine bs) (stepped (loaded (table_cleared m) bs) done) (stepped (table_cleared m) (refused 4)) tt tt

  ask_short : (a : Ask) → Short (ask_step m a).act
  ask_short (loading bs) = load_short bs
  ask_short (asking (load p)) = tt
  ask_short (asking (show x)) = show_short x
  ask_short (asking names) = names_short 8
  ask_short (asking (rename_bind x ks y)) = tt
  ask_short (asking (rename_param x i y)) = tt
  ask_short (asking (rename_fun x y)) = tt
  ask_short (asking (extract x ks y)) = tt
  ask_short (asking (inline_bind x ks)) = tt
  ask_short (asking (inline_call x ks)) = tt
  ask_short (asking (turn_cond x ks)) = tt
  ask_short (asking (drop_fun x)) = tt
  ask_short (asking undo) = undo_short

  pub next_short : Short (gone_on m).act
  unfolding gone_on
  next_short = pick_short (eqb (mark m) 0) (stepped m (refused 0)) (names_step m (mark m - 1)) tt (names_short (mark m - 1))

pub said_short : (m text : List ℕ) → Short (by_event m (said text)).act
said_short m text = by_ask (asked text)
  where
    by_ask : (o : Option Ask) → Short (obeyed (set m 0 0) o).act
    by_ask None = tt
    by_ask (Some a) = ask_short (set m 0 0) a
