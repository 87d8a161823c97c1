use Rattle.std.proofs.Common.{◌∙◌, sym}
use Rattle.file_index.specs.Index.{Puts}
use Rattle.dn_volume.proofs.Tables.{some_map}
use Rattle.name_ops.specs.Ending.{MovesName}
use Rattle.name_ops.proofs.ending.move_name.Goals as goal

pub returns : goal.returns
returns c = some_map c.args.put (λ to. Puts to c.in-Some.node c.drop_bytes.new.self c.put_name.new.names)
    (λ to. MovesName c.args.from.now to c.args.names.now c.put_name.new.names)
    (λ to puts. record {
      node = c.in-Some.node;
      mid = c.drop_bytes.new.self;
      led = sym c.find_inode.ensures ∙ c.in-Some.is;
      drops = c.drop_bytes.ensures;
      puts = puts;
    }) c.put_name.ensures
