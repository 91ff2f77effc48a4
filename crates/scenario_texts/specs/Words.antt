-- The words of lines.
use Rattle.std.specs.Prelude.{ℕ, List, codes}
use Rattle.scenario_texts.specs.declared.keyword.Keyword.{Keyword}
use Rattle.scenario_texts.specs.declared.keyword.Keyword.TheVariants as keyword

-- a keyword as it is spelled
abbrev pub keyword_text : Keyword → List ℕ
keyword_text keyword.Config = codes "config"
keyword_text keyword.Keys = codes "keys"
keyword_text keyword.Frames = codes "frames"
keyword_text keyword.Liar = codes "liar"
keyword_text keyword.Submit = codes "submit"
keyword_text keyword.Propose = codes "propose"
keyword_text keyword.End = codes "end"
keyword_text keyword.Pass = codes "pass"
keyword_text keyword.Inject = codes "inject"
keyword_text keyword.Execute = codes "execute"
keyword_text keyword.Query = codes "query"
keyword_text keyword.Retire = codes "retire"
keyword_text keyword.Info = codes "info"
keyword_text keyword.Silent = codes "silent"
keyword_text keyword.Round = codes "round"
keyword_text keyword.LieReport = codes "lie-report"
keyword_text keyword.LieLock = codes "lie-lock"
keyword_text keyword.LieStale = codes "lie-stale"
keyword_text keyword.LieAck = codes "lie-ack"
