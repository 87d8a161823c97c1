-- Why places are left alone, and where the pages of rows come from: through one event, and since a
-- base.
use Rattle.std.specs.Prelude.{◌≡◌, ◌≢◌, ◌⊎◌, ℕ, ◌*◌, ◌<◌, List, length, Some, Contains}
use Rattle.dn_model.specs.Maps.{Mapping}
use Rattle.dn_model.specs.Table.{Row}
use Rattle.dn_model.specs.Disk.{Disk, rows}
use Rattle.dn_model.specs.Files.{Files, files}
use Rattle.dn_model.specs.Own.{Print, LivePlace, IsAlone, page_bytes, file_page}

-- some file has a page of these bytes
pub record HasPage (f : Files) (page : List ℕ) : Type 0 where
  pub name : List ℕ
  pub bytes : List ℕ
  pub idx : ℕ
  pub file : f name ≡ Some bytes
  pub in_file : 4096 * idx < length bytes
  pub same : file_page bytes idx ≡ page

-- the place was left alone on the disk of before, on the same page with the same bytes
pub record WasAloneOn (d e : Disk) (ino idx : ℕ) (m : Mapping) : Type 0 where
  pub mapping : Mapping
  pub place : LivePlace d ino idx mapping
  pub alone : IsAlone mapping
  pub page_is : mapping.block ≡ m.block
  pub bytes_are : page_bytes e m.block ≡ page_bytes d m.block

-- the page had a row, with the same bytes
pub record HadRow (d e : Disk) (row : Row) : Type 0 where
  pub was : Row
  pub there : Contains (rows d) was
  pub page_is : was.page ≡ row.page
  pub bytes_are : page_bytes e row.page ≡ page_bytes d row.page

-- no place is left alone that wasn't
abbrev pub KeepsAlone : Disk → Disk → Type 0
KeepsAlone d e = (ino idx : ℕ) (m : Mapping) → LivePlace e ino idx m → IsAlone m
    → WasAloneOn d e ino idx m

-- the page of a row has other bytes with the same print
pub record HasTwinRow (print : Print) (d : Disk) (page : List ℕ) : Type 0 where
  pub row : Row
  pub there : Contains (rows d) row
  pub other : page_bytes d row.page ≢ page
  pub same : print (page_bytes d row.page) ≡ print page

-- A place that is left alone was so before, or some row of before has its twin. The page of a row
-- had one before, or
-- has the bytes of a page of a file of before.
pub record AccountsFor (print : Print) (d e : Disk) : Type 0 where
  pub alone : (ino idx : ℕ) (m : Mapping) → LivePlace e ino idx m → IsAlone m
      → WasAloneOn d e ino idx m ⊎ HasTwinRow print d (page_bytes e m.block)
  pub row_pages : (row : Row) → Contains (rows e) row → HadRow d e row ⊎ HasPage (files d)
      (page_bytes e row.page)
