-- The mappings of a log that grows.
use Rattle.std.proofs.Common.{◌≡◌, ℕ, ◌+◌, ◌*◌, ◌/◌, ◌%◌, ◌<◌, ◌≤◌, List, [], ◌∷◌, ◌++◌, length, refl, sym, ◌∙◌, ap, arith, add-zero, zero-add}
use Rattle.std.specs.Prelude.{slice_index, Option, None}
use Rattle.log_entry.specs.Spelling.{spelling, spelled}
use Rattle.log_entry.proofs.Spelled.{length-spelled-cons, spelling_some}
use Rattle.dn_model.specs.Log.{Log, IsPaged, count, slot_name, Placed, placed_from}
use Rattle.dn_model.specs.Maps.{Mapping, mapping, mapped_after, remapped}
use Rattle.dn_model.specs.Growth.{IsGrown}
use Rattle.log_entry.specs.declared.item.LogItem.{LogItem}
use Rattle.dn_model.proofs.Append.{page-grown}
use Rattle.pm_layout.specs.declared.Geometry.{Geometry}

pub mapped_after-append : (idx : ℕ) (m : Option Mapping) (ps qs : List Placed) → mapped_after idx m (ps ++ qs) ≡ mapped_after idx
    (mapped_after idx m ps) qs
mapped_after-append idx m [] qs = refl
mapped_after-append idx m (p ∷ ps) qs = mapped_after-append idx (remapped idx m p) ps qs

pub placed_from-append : (pages : List ℕ) (k : ℕ) (xs ys : List LogItem) → placed_from pages k (xs ++ ys) ≡ placed_from pages k xs ++ placed_from
    pages (k + length (spelled xs)) ys
placed_from-append pages k [] ys = ap (λ (n : ℕ). placed_from pages n ys) (sym (add-zero k))
placed_from-append pages k (x ∷ xs) ys =
    let e : k + length (spelling x) + length (spelled xs) ≡ k + length (spelled (x ∷ xs)) = omega (arith, length-spelled-cons x xs) in
    ap (λ (ps : List Placed). record { slot = slot_name pages k; item = x } ∷ ps)
    (placed_from-append pages (k + length (spelling x)) xs ys ∙ ap (λ (n : ℕ). placed_from pages (k + length (spelling x)) xs ++ placed_from pages n
    ys) e)

-- items keep their places on longer pages
placed_from-pages : (old new : List ℕ) (end k : ℕ) (xs : List LogItem) → ((i : ℕ) → i < end → slice_index new (i / 63) ≡ slice_index old (i / 63))
    → k + length (spelled xs) ≤ end
    → placed_from new k xs ≡ placed_from old k xs
placed_from-pages old new end k [] same le = refl
placed_from-pages old new end k (x ∷ xs) same le =
    let more = length-spelled-cons x xs in let some = spelling_some x in
    (λ i. record { slot = same k (omega arith) i * 64 + k % 63; item = x } ∷ placed_from-pages old new end (k + length (spelling x)) xs same
    (omega arith) i)

-- the mapping of a place after the log has grown
pub mapping-grown : (g : Geometry) (old new : Log) (grown : IsGrown old new) → IsPaged g old → (idx : ℕ)
    → mapping new idx ≡ mapped_after idx (mapping old idx) (placed_from new.pages (count old) grown.more)
unfolding mapping count
mapping-grown g old new grown paged idx =
    ap (λ (xs : List LogItem). mapped_after idx None (placed_from new.pages 0 xs)) grown.items
    ∙ ap (mapped_after idx None) (placed_from-append new.pages 0 old.items grown.more)
    ∙ mapped_after-append idx None (placed_from new.pages 0 old.items) (placed_from new.pages (0 + length (spelled old.items)) grown.more)
    ∙ ap (λ (ps : List Placed). mapped_after idx (mapped_after idx None ps) (placed_from new.pages (0 + length (spelled old.items)) grown.more))
    (placed_from-pages old.pages new.pages (length (spelled old.items)) 0 old.items
    (λ i lt. page-grown old new grown (i / 63) (omega (arith, paged.fits))) (omega arith))
    ∙ ap (λ (n : ℕ). mapped_after idx (mapped_after idx None (placed_from old.pages 0 old.items)) (placed_from new.pages n grown.more))
    (zero-add (length (spelled old.items)))
