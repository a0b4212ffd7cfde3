-- A text asks for what its first byte and the others ask for, and that is what is spelled so. Assumes nothing.
use Rattle.std.proofs.Common.{◌≡◌, ℕ, suc, true, List, [], ◌∷◌, length, get_or, Some, None, Option, sym, refl, ap, ◌∙◌, w8, Fits, lt-ltb}
use mir.Facts.{Fits-lt-pow}
use Rattle.std.proofs.lemmas.List.{nil_from_length}
use Rattle.std.proofs.lemmas.Bool.{and_from}
use Rattle.language.specs.Basics.{pick}
use Rattle.language.specs.Bytes.{all_bytes}
use Rattle.model.specs.Reading.{Ask, command_in, of_kind, asked}
use Rattle.model.proofs.AskedFacts.{said-asked, asked-said}
use Rattle.wire.specs.declared.request.Request.{Request}
use Rattle.wire.specs.Request.{request_asks, request_told, Exact}

pub typed_bytes : (bs : List ℕ) → ((i : ℕ) → Fits w8 (get_or bs i 0)) → all_bytes bs ≡ true
typed_bytes [] h = refl
typed_bytes (b ∷ bs) h = and_from _ _ (lt-ltb b 256 (Fits-lt-pow (h 0))) (typed_bytes bs (λ i. h (suc i)))

pub asked_none : (bs : List ℕ) → length bs ≡ 0 → None ≡ asked bs
unfolding asked
asked_none bs h = ap (λ t. pick (all_bytes t) (of_kind t) None) (sym (nil_from_length bs h))

pub asked_kind : (bs : List ℕ) (k : ℕ) (rest : List ℕ) (r : Option Ask) → bs ≡ k ∷ rest → ((i : ℕ) → Fits w8 (get_or bs i 0)) → r ≡ command_in k rest → r ≡ asked bs
unfolding asked
asked_kind bs k rest r h typed e = e ∙ sym (ap of_kind h) ∙ ap (λ t. pick t (of_kind bs) None) (sym (typed_bytes bs typed))

pub exact : (text : List ℕ) (r : Option Request) → request_told r ≡ asked text → Exact text r
exact text None e = λ c said. let a = said-asked text c said in cc (e, a.1)
exact text (Some q) e = asked-said text (request_asks q) (sym e)
