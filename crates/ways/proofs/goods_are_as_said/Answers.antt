use Rattle.ways.proofs.Goods.{goods_told}
use Rattle.ways.proofs.goods_are_as_said.Goals as goal

pub returns : goal.returns
returns c = goods_told
