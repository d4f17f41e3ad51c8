use Rattle.std.proofs.Common.{◌≡◌, ℕ, ◌+◌, length, ◌∙◌, subst, arith}
use Rattle.plan_model.specs.Plans.{Plan}
use Rattle.program_model.specs.declared.half.Half.{Half}
use Rattle.program_model.specs.declared.half.Half.TheVariants.{Head, Tail}
use Rattle.program_model.specs.Programs.{half_program}
use Rattle.party_program.specs.ProgramPlaces.{position_of, IsPlace}
use Rattle.party_program.proofs.ProgramPlaces.{before_more, count_at, in_slot}
use Rattle.party_program.proofs.program.Program.go_on.Goals as goal

-- the half of the next slot of a batch begins behind that of a slot
next_half : (plan : Plan) (p s a b k : ℕ) (half : Half) → position_of plan p s half a b (k + 1) ≡ position_of plan p s half a b k + length (half_program plan p s half k)
next_half plan p s a b k Head = omega (arith, before_more plan p s Head k)
next_half plan p s a b k Tail = omega (arith, before_more plan p s Tail k)

pub returns-then-place : goal.returns-then-place
returns-then-place c = λ q here.
    let plan = c.args.plan.now in
    let p = c.args.self.now.party in
    let s = c.args.self.now.session in
    let place = c.args.place.now in
    let there = in_slot plan p s place q here c.requires.some in
    let count : place.count ≡ length (half_program plan p s place.half place.slot) = here.count ∙ count_at plan p s place.half place.slot there in
    let next : position_of plan p s place.half place.batch place.end (place.slot + 1) ≡ q + 1 =
    omega (arith, next_half plan p s place.batch place.end place.slot place.half, here.done, count, c.if-place.true) in
    subst (IsPlace plan p s c.enter.new.place) next c.enter.ensures
