-- A raise of an operation in flight counts once more at its row, and nowhere else.
use Rattle.std.proofs.Common.{◌≡◌, ℕ, suc, ◌+◌, ◌-◌, ◌<◌, ◌≤◌, List, [], ◌∷◌, ◌++◌, length, ◌∙◌, ap, arith}
use Rattle.std.specs.Prelude.{get_or, take, Some}
use Rattle.std.proofs.Math.Seq.{take-suc}
use Rattle.dn_volume.specs.declared.flight.Flight.{Flight}
use Rattle.dn_volume.specs.declared.volume.Parts.{Parts}
use Rattle.dn_volume.specs.Balance.{times, raised_by, raised}
use Rattle.dn_volume.specs.Replaces.{Replaces}
use Rattle.dn_volume.proofs.Replaced.{raised_moved}

pub times-append : (slot : ℕ) (xs ys : List ℕ) → times slot (xs ++ ys) ≡ times slot xs + times slot ys
times-append slot [] ys = omega arith
times-append slot (x ∷ xs) ys = let later = times-append slot xs ys in omega (arith, later)

-- one row more of a client's operation is raised, and of nobody else
pub record RaisesRow (b b' : Parts) (who : ℕ) (f f' : Flight) : Type 0 where
  pub client : 1 ≤ who
  pub replaces : Replaces (who - 1) (Some f) (Some f') b b'
  pub some : f.raised < length f.rows.items
  pub rows_same : f'.rows.items ≡ f.rows.items
  pub one_more : f'.raised ≡ suc f.raised
  pub dying : b'.reclaiming.raised ≡ b.reclaiming.raised

pub raised_more : (b b' : Parts) (who : ℕ) (f f' : Flight) → RaisesRow b b' who f f' → (slot : ℕ)
    → raised b' slot ≡ raised b slot + times slot (get_or f.rows.items f.raised 0 ∷ [])
raised_more b b' who f f' is slot =
    let moved = raised_moved who is.client (Some f) (Some f') b b' is.replaces is.dying slot in
    let more : times slot (raised_by (Some f')) ≡ times slot (take f.raised f.rows.items) + times slot (get_or f.rows.items f.raised 0 ∷ []) =
    ap (λ (n : ℕ). times slot (take n f'.rows.items)) is.one_more
    ∙ ap (λ (xs : List ℕ). times slot (take (suc f.raised) xs)) is.rows_same
    ∙ ap (times slot) (take-suc f.rows.items f.raised 0 is.some)
    ∙ times-append slot (take f.raised f.rows.items) (get_or f.rows.items f.raised 0 ∷ []) in
    omega (arith, moved, more)
