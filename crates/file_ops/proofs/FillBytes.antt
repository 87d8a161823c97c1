-- The bytes that a write or a cut puts into a new page.
use Rattle.std.proofs.Common.{◌≡◌, ℕ, ◌+◌, ◌-◌, ◌*◌, ◌≤◌, Bool, false, List, [], ◌∙◌, ap, arith}
use Rattle.std.specs.Prelude.{slice_index, nat_le, nat_lt, ◌&&◌, if◌then◌else◌}
use Rattle.std.specs.Ordering.{nat_cmp}
use Rattle.std.specs.FinMap.{FinMap}
use Rattle.std.proofs.lemmas.Bool.Decides.{nat_tests}
use Rattle.pm_device.specs.State.{State}
use Rattle.pm_layout.specs.declared.Geometry.{Geometry}
use Rattle.file_index.specs.declared.page_map.Mapping.{Mapping}
use Rattle.dn_model.specs.Files.{bytes}
use Rattle.dn_model.specs.declared.op.Op.TheVariants.{Write, Cut}
use Rattle.file_content.specs.Content.{kept_byte}
use Rattle.file_content.specs.PutLoop.{put_byte}
use Rattle.file_content.specs.Pages.{FillsPlace}
use Rattle.file_content.proofs.Filling.{filled-whole}
use Rattle.file_ops.specs.Filling.{FillsByOp}

put_none : (j x : ℕ) → put_byte 0 [] j x ≡ x
put_none j x =
    let none : (nat_le 0 j && nat_lt j 0) ≡ false = grind (arith, nat_tests) in
    ap (λ (b : Bool). if b then slice_index [] (j - 0) else x) none

module _ (g : Geometry) (who : ℕ) (map : FinMap nat_cmp Mapping) (size place block : ℕ) (s t : State) (name : List ℕ) where
  pub fills_write : (at : ℕ) (text : List ℕ) → FillsPlace g who map size place at text block s t
      → FillsByOp g who map size (Write name at text) place block s t
  fills_write at text fills = λ d ino is valid same stands.
      filled-whole d ino size map is t who block place at text (fills d ino size is (omega arith) valid same stands)

  pub fills_cut : (to : ℕ) → to ≤ size → FillsPlace g who map to place 0 [] block s t → FillsByOp g who map size (Cut name to) place block s t
  fills_cut to le fills = λ d ino is valid same stands.
      let filled = fills d ino size is le valid same stands in
      record {
        bytes_are = λ k lt. filled.bytes_are k lt ∙ put_none (4096 * place + k) (kept_byte to (bytes d ino) (4096 * place + k));
        flushed = filled.flushed;
      }
