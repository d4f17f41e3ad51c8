use Rattle.party_program.proofs.FollowedPatterns.{half_program_follows}
use Rattle.party_program.proofs.laws.programs_follow_patterns.Goals as goal

pub returns : goal.returns
returns c = λ plan p s k half is ls lk. half_program_follows plan p s k is ls lk half
