-- Programs in memory that come and go: loading, going back, and what a change leaves. Assumes nothing: these are definitions.
use Rattle.std.specs.Prelude.{ℕ, ◌+◌, ◌-◌, List, length, drop, slice_set}
use Rattle.std.proofs.Math.Seq.{paste}
use Rattle.language.specs.Packed.{packed}
use Rattle.expr.specs.Look.{smaller}
use Rattle.memory.specs.Layout.{older, build_at, frames_at, put_words, zero_words, built}

-- the program in these bytes is the current one, and there is nothing to go back to
unfoldable pub loaded : List ℕ → List ℕ → List ℕ
loaded m bs = slice_set (slice_set (put_words m 16 (packed bs)) 1 0) 2 (length bs - 8)

-- lengths and slots moved down by one: each program is the one before it, and the last stays
unfoldable pub moved_down : List ℕ → List ℕ
moved_down m = paste (paste m 2 (drop 3 m) 8) 16 (drop 8208 (paste m 2 (drop 3 m) 8)) 65536

unfoldable pub gone_back : List ℕ → List ℕ
gone_back m = moved_down (slice_set m 1 (older m - 1))

-- lengths and slots moved up by one: the ninth falls out
unfoldable pub moved_up : List ℕ → List ℕ
moved_up m = paste (paste m 3 (drop 2 m) 8) 8208 (drop 16 (paste m 3 (drop 2 m) 8)) 65536

-- the n bytes in the build area are the current program
unfoldable pub placed : List ℕ → ℕ → List ℕ
placed m n = paste (slice_set m 2 (n - 8)) 16 (drop 73744 (slice_set m 2 (n - 8))) 8192

-- and the one before can be gone back to
unfoldable pub committed : List ℕ → ℕ → List ℕ
committed m n = placed (moved_up (slice_set m 1 (smaller 8 (older m + 1)))) n

-- the n bytes in the build area are the current program, the one before can be gone back to, and build area, frames and list are zeros
unfoldable pub accepted : List ℕ → ℕ → List ℕ
accepted m n = put_words (committed (put_words m frames_at (zero_words 49152)) n) build_at (zero_words 8192)

-- what a change leaves: the new program is the current one, the one before can be gone back to, and build area, frames and list are zeros
unfoldable pub changed : List ℕ → List ℕ → List ℕ
changed m bs = put_words (committed (built m bs) (length bs)) build_at (zero_words 8192)
