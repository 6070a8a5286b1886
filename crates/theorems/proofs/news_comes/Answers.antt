use Rattle.theorems.proofs.Promises.{news_comes}
use Rattle.theorems.proofs.news_comes.Goals as goal

pub returns : goal.returns
returns c = news_comes
