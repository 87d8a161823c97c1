-- Copies of pages, and the prints that were taken of them.
use Rattle.std.specs.Prelude.{◌≡◌, ℕ, List, length, Option, Some, Contains}
use Rattle.dn_model.specs.Own.{Print}

-- a copied page: its number, its bytes, and its print where that was taken
pub record CopiedPage : Type 0 where
  pub page : ℕ
  pub bytes : List ℕ
  pub print : Option (List ℕ)

-- the bytes are a page's, and a print that was taken is theirs
pub record IsPrinted (make : Print) (bytes : List ℕ) (print : Option (List ℕ)) : Type 0 where
  pub whole : length bytes ≡ 4096
  pub of_bytes : (taken : List ℕ) → print ≡ Some taken → taken ≡ make bytes

-- the copy with its print
abbrev pub with_print : Print → CopiedPage → CopiedPage
with_print make copy = record copy { print = Some (make copy.bytes) }

-- the copy is of this page and has these bytes and this print
pub record Serves (page : ℕ) (bytes taken : List ℕ) (copy : CopiedPage) : Type 0 where
  pub page_is : copy.page ≡ page
  pub bytes_are : copy.bytes ≡ bytes
  pub print_is : copy.print ≡ Some taken

-- so is one of these copies
pub record HasServing (page : ℕ) (bytes taken : List ℕ) (copies : List CopiedPage) : Type 0 where
  pub copy : CopiedPage
  pub there : Contains copies copy
  pub serves : Serves page bytes taken copy
