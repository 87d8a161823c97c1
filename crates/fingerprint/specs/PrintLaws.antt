-- That the two fingerprints of this crate are prints.
use Rattle.std.proofs.Common.{
  ◌≡◌,
  ℕ,
  zero,
  suc,
  ◌*◌,
  ◌%◌,
  ◌^◌,
  ◌<◌,
  List,
  length,
  refl,
  arith,
  w32,
  length-append,
}
use Rattle.std.specs.Prelude.{All, sum, replicate, slice_index}
use Rattle.std.specs.Int.{byte_at, bytes_high_first, to_be_bytes}
use Rattle.std.proofs.lemmas.List.Elements.{All-nil, All-cons, All-append, All-replicate}
use Rattle.sha1.specs.Sha1.{sha1, digest_bytes}
use Rattle.fingerprint.specs.Print.{IsPrint, sum_print}

abbrev IsByte : ℕ → Type 0
IsByte b = b < 256

byte_at-lt : (k n : ℕ) → byte_at k n < 256
byte_at-lt zero n = omega arith
byte_at-lt (suc k) n = omega arith

bytes-high_first : (k n : ℕ) → All IsByte (bytes_high_first k n)
bytes-high_first zero n = All-nil IsByte
bytes-high_first (suc k) n = All-cons IsByte (byte_at k n) (bytes_high_first k n) (byte_at-lt k n)
    (bytes-high_first k n)

pub length-bytes_high_first : (k n : ℕ) → length (bytes_high_first k n) ≡ k
length-bytes_high_first zero n = refl
length-bytes_high_first (suc k) n = let rest = length-bytes_high_first k n in omega arith

length-digest_bytes : (h : List ℕ) (n : ℕ) → length (digest_bytes h n) ≡ 4 * n
unfolding digest_bytes
length-digest_bytes h zero = refl
length-digest_bytes h (suc n) =
    let rest = length-digest_bytes h n in
    let word = length-bytes_high_first 4 (slice_index h n) in
    let both = length-append (digest_bytes h n) (to_be_bytes w32 (slice_index h n)) in
    omega arith

bytes-digest_bytes : (h : List ℕ) (n : ℕ) → All IsByte (digest_bytes h n)
unfolding digest_bytes
bytes-digest_bytes h zero = All-nil IsByte
bytes-digest_bytes h (suc n) = All-append IsByte (digest_bytes h n)
    (to_be_bytes w32 (slice_index h n)) (bytes-digest_bytes h n)
    (bytes-high_first 4 (slice_index h n))

pub sha1-print : (bytes : List ℕ) → IsPrint (sha1 bytes)
unfolding sha1
sha1-print bytes = record { twenty = length-digest_bytes _ 5; bytes = bytes-digest_bytes _ 5 }

pub sum-print : (bytes : List ℕ) → IsPrint (sum_print bytes)
sum-print bytes = record {
  twenty = refl;
  bytes = All-append IsByte (bytes_high_first 4 (sum bytes % 2 ^ 32)) (replicate 16 0)
      (bytes-high_first 4 (sum bytes % 2 ^ 32)) (All-replicate IsByte 16 0 (omega arith));
}
