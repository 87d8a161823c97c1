use Rattle.std.proofs.Common.{◌≡◌, true, false, sym, ◌∙◌}
use Rattle.dn_files.specs.FileLists.{files_of}
use Rattle.dn_files.proofs.Renamed.{renamed_self, put_and_dropped}
use Rattle.dn_files.proofs.applying.rename.Goals as goal

pub returns-then-is_same-clause-ok : goal.returns-then-is_same-clause-ok
returns-then-is_same-clause-ok c = renamed_self (files_of c.args.files.now) c.args.from.now c.args.to.now (c.is_same.ensures.0 c.if-is_same.true)

pub returns-clause-ok : goal.returns-clause-ok
returns-clause-ok c =
    let put = rw (c.in_ok-bytes.ensures.items, c.bytes_of.ensures) at c.in_ok-put.ensures.ok in
    put_and_dropped (files_of c.args.files.now) c.args.from.now c.args.to.now (λ same. let wrong : false ≡ true = sym c.if-is_same.false ∙
    c.is_same.ensures.1 same in cc) c.requires.found _ _ put c.drop_name.ensures
