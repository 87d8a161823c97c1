use Rattle.law_write.proofs.WriteFree.{free-kept, block-not_free, fresh-not_free, overwritten-free, free_cases}
use Rattle.law_write.proofs.writes.writes_take_and_free.Goals as goal

pub returns : goal.returns
returns c = λ ino old new w ok. record {
  kept = free-kept ino old new w;
  block_taken = block-not_free ino old new w ok;
  fresh_taken = fresh-not_free ino old new w;
  freed = overwritten-free ino old new w ok;
  only = free_cases ino old new w ok;
}
