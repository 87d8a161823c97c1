-- Where the operations in flight are what they were.
use Rattle.std.proofs.Common.{◌≡◌, inl, ℕ, ◌-◌, List, refl, sym, ◌∙◌, ap, Option}
use Rattle.dn_model.specs.Disk.{Disk}
use Rattle.dn_model.specs.Own.{Print}
use Rattle.dn_volume.specs.declared.flight.Flight.{Flight}
use Rattle.dn_volume.specs.declared.volume.Parts.{Parts}
use Rattle.dn_volume.specs.Parties.{KeepsOps, flight_at}
use Rattle.dn_volume.specs.Accounts.{AccountsFor, KeepsAlone}

pub ops_at : (b b' : Parts) → ((k : ℕ) → flight_at b'.flights.items k ≡ flight_at b.flights.items k) → KeepsOps b b'
ops_at b b' same = record {
  kept = λ q f flies. (f, record { client = flies.client; is = same (q - 1) ∙ flies.is }, refl);
  only = λ q f flies. (f, record { client = flies.client; is = sym (same (q - 1)) ∙ flies.is }, refl);
}

pub ops_same : (b b' : Parts) → b'.flights.items ≡ b.flights.items → KeepsOps b b'
ops_same b b' same = ops_at b b' (λ k. ap (λ (fs : List (Option Flight)). flight_at fs k) same)

-- on one disk each place is left alone that is so, and all is accounted for
pub quiet_alone : (d : Disk) → KeepsAlone d d
quiet_alone d ino idx m place alone = record { mapping = m; place = place; alone = alone; page_is = refl; bytes_are = refl }

pub quiet_accounts : (print : Print) (d : Disk) → AccountsFor print d d
quiet_accounts print d = record {
  alone = λ ino idx m place alone. inl (quiet_alone d ino idx m place alone);
  row_pages = λ row has. inl (record { was = row; there = has; page_is = refl; bytes_are = refl });
}
