use Rattle.share_world.proofs.LocalWords.{held_are_dealt}
use Rattle.share_world.proofs.SentWords.{sent_are_words, opened_are_plain}
use Rattle.share_world.proofs.local_is_dealt.Goals as goal

pub returns-clause-held : goal.returns-clause-held
returns-clause-held c = held_are_dealt

pub returns-clause-sent : goal.returns-clause-sent
returns-clause-sent c = sent_are_words

pub returns-clause-opened : goal.returns-clause-opened
returns-clause-opened c = opened_are_plain
