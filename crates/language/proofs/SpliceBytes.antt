-- Bytes in which rows of bytes are replaced by a row of bytes are bytes. Assumes nothing.
use Rattle.std.proofs.Common.{arith, ◌≡◌, ℕ, ◌+◌, true, ltb, List, [], ◌∷◌}
use Rattle.language.specs.Bytes.{Name, all_bytes}
use Rattle.language.specs.Fits.{a_name}
use Rattle.language.specs.Splice.{spliced_from, names_replaced}
use Rattle.language.proofs.ListFacts.{every_take, every_drop}
use Rattle.language.proofs.ByteFacts.{bytes_append, bytes_name}

pub bytes_spliced : (bs new : List ℕ) (width : ℕ) → all_bytes bs ≡ true → all_bytes new ≡ true → (ks : List ℕ) (j : ℕ) → all_bytes (spliced_from bs new width ks j) ≡ true
unfolding spliced_from
bytes_spliced bs new width h k [] j = every_drop (λ b. ltb b 256) j bs h
bytes_spliced bs new width h k (i ∷ ks) j = grind (arith, bytes_append, every_take, every_drop, bytes_spliced bs new width h k ks (i + width))

pub bytes_replaced : (bs : List ℕ) (x y : Name) (ks : List ℕ) → all_bytes bs ≡ true → a_name y ≡ true → all_bytes (names_replaced bs x y ks) ≡ true
bytes_replaced bs x y ks h named = grind (arith, bytes_spliced, bytes_name)
