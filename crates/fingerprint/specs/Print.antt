-- What a print of bytes is.
use Rattle.std.specs.Prelude.{
  ◌≡◌,
  ℕ,
  zero,
  suc,
  ◌%◌,
  ◌^◌,
  ◌<◌,
  List,
  ◌++◌,
  length,
  replicate,
  sum,
  All,
}
use Rattle.byteorder.specs.Endian.{big_bytes}
use Rattle.fingerprint.specs.Bytes.{be_number}

-- a print is 20 bytes
pub record IsPrint (print : List ℕ) : Type 0 where
  pub twenty : length print ≡ 20
  pub bytes : All (λ b. b < 256) print

-- the sum of the bytes as four bytes, and 16 zeros
abbrev pub sum_print : List ℕ → List ℕ
sum_print bytes = big_bytes 4 (sum bytes % 2 ^ 32) ++ replicate 16 0

-- a print in three words: its bytes 0 to 7, 8 to 15 and 16 to 19
abbrev pub print_word : List ℕ → ℕ → ℕ
print_word print zero = be_number print 0 0 8
print_word print (suc zero) = be_number print 0 8 8
print_word print (suc (suc k)) = be_number print 0 16 4
