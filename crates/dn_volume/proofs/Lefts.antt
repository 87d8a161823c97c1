-- Two pages are left, over events and where two are free.
use Rattle.std.proofs.Common.{◌≡◌, inl, inr, ℕ, length, sym, subst, arith}
use Rattle.std.specs.Prelude.{◌≤◌, slice_index, Contains}
use Rattle.std.proofs.lemmas.List.Elements.{Contains-get_or}
use Rattle.page_alloc.specs.Free.{FreePages, IsInOrder}
use Rattle.dn_volume.specs.declared.volume.Parts.{Parts}
use Rattle.dn_volume.specs.Parties.{Takes}
use Rattle.dn_volume.specs.Cleans.{IsLeft, TwoLeft}

pub left_on : (b b' : Parts) → ((page : ℕ) → IsLeft b page → IsLeft b' page) → TwoLeft b → TwoLeft b'
left_on b b' on two = record {
  one = two.one;
  other = two.other;
  apart = two.apart;
  one_left = on two.one two.one_left;
  other_left = on two.other two.other_left;
}

-- with the same free pages, and those that a cleaning has taken
pub left_still : (b b' : Parts) → b'.free ≡ b.free → ((page : ℕ) → Takes b 16 page → Takes b' 16 page) → TwoLeft b → TwoLeft b'
left_still b b' free takes = left_on b b' on
  where
    on : (page : ℕ) → IsLeft b page → IsLeft b' page
    on page (inl has) = inl (subst (λ (x : FreePages). Contains x.free page) (sym free) has)
    on page (inr took) = inr (takes page took)

-- with no fewer free pages
pub left_more : (b b' : Parts) → ((page : ℕ) → Contains b.free.free page → Contains b'.free.free page)
    → ((page : ℕ) → Takes b 16 page → Takes b' 16 page) → TwoLeft b → TwoLeft b'
left_more b b' more takes = left_on b b' on
  where
    on : (page : ℕ) → IsLeft b page → IsLeft b' page
    on page (inl has) = inl (more page has)
    on page (inr took) = inr (takes page took)

-- where two are free
pub two_left : (b : Parts) → IsInOrder b.free → 2 ≤ length b.free.free → TwoLeft b
two_left b ordered two = record {
  one = slice_index b.free.free 0;
  other = slice_index b.free.free 1;
  apart = λ e. let up = ordered.rising 0 (omega (arith, two)) in omega (arith, up, e);
  one_left = inl (Contains-get_or b.free.free 0 0 (omega (arith, two)));
  other_left = inl (Contains-get_or b.free.free 1 0 (omega (arith, two)));
}
