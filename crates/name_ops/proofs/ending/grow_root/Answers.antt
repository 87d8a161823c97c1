use Rattle.std.proofs.Common.{length, refl, subst}
use Rattle.std.specs.Prelude.{◌+◌, ◌<◌, Option, IfSome}
use Rattle.std.proofs.lemmas.Option.{slice_get_read}
use Rattle.dn_volume.specs.declared.volume.InodeState.{InodeState}
use Rattle.name_ops.proofs.GivenPages.{grown_root}
use Rattle.name_ops.proofs.ending.grow_root.Goals as goal

pub grow_log-requires : goal.grow_log-requires
grow_log-requires c = subst (λ (o : Option InodeState). IfSome o (λ root. root.log_pages + c.args.pages < 18446744073709551616))
    (slice_get_read c.args.inodes.now.items (length c.args.inodes.now.items) 0 c.index_mut.result.now refl c.requires.there c.index_mut.ensures.value)
    c.requires.room

pub returns : goal.returns
returns c = grown_root c.args.pages c.args.inodes.now.items c.index_mut.result.now c.grow_log.new.node c.requires.there c.index_mut.ensures.value
    c.grow_log.ensures
