use Rattle.std.proofs.Common.{◌≡◌, ℕ, ◌+◌, ◌-◌, ◌<◌, length, Some, sym, ap, ◌∙◌, subst, arith}
use Rattle.session_slots.specs.Sessions.{row_names}
use Rattle.plan_model.specs.Plans.{session}
use Rattle.desk_walks.specs.Walks.{IsSending, Sends}
use Rattle.desk_walks.proofs.GatePosts.{head_few, head_listed, head_two, is_post, none_sent, post_is, post_next, post_sent, post_share, post_start, post_word, posted_on, sent_few, sent_within}
use Rattle.desk_walks.proofs.walks.post_each.Goals as goal

-- the head has as many steps as the list
pub overflow_cast-count : goal.overflow_cast-count
overflow_cast-count g c =
    let given = c.requires.sends.0 in
    let sending = c.requires.sends.1 in
    let long = head_listed c.args.plan.now given c.args.desk.now sending c.product_steps-of_product.result.now c.product_steps-of_product.ensures in
    let few = head_few c.args.plan.now given c.args.desk.now sending in
    omega (arith, long, few)

pub loop-at-init : goal.loop-at-init
loop-at-init g c =
    let given = c.requires.sends.0 in
    let sending = c.requires.sends.1 in
    let long = head_listed c.args.plan.now given c.args.desk.now sending c.product_steps-of_product.result.now c.product_steps-of_product.ensures in
    let two = head_two c.args.plan.now given c.args.desk.now sending in (
      omega arith,
      omega (arith, long, two),
      c.requires.seat,
      (λ given sending words. (
        post_start c.args.plan.now given c.args.desk.now sending,
        none_sent given c.args.seat.now c.args.desk.now.position (c.args.desk.now.position + (2 - 2)) (omega arith) (λ x n i from to is. absurd (omega (arith, from, to))),
      )),
    )

pub summands-summands-requires-clause-wire : goal.summands-summands-requires-clause-wire
summands-summands-requires-clause-wire g c =
    let plan = c.args.plan.now in
    let d = c.args.desk.now in
    subst (λ w. w < row_names (session plan d.session)) (sym c.requires.wire) (sent_within plan c.requires.sends.0 2 d c.requires.sends.1).output

-- past the deal comes a post
pub unreachable-requires : goal.unreachable-requires
unreachable-requires g c =
    let plan = c.args.plan.now in
    let given = c.requires.sends.0 in
    let sending = c.requires.sends.1 in
    let d = c.args.desk.now in
    let long = head_listed plan given d sending c.product_steps-of_product.result.now c.product_steps-of_product.ensures in
    let now = (c.loop-at.invariant.3 given sending c.requires.sends.2).0 in
    let found = is_post plan given d sending c.loop-at.at c.loop-at.invariant.0 (omega (arith, long, c.loop-at-test.true)) now c.product_step-step.result c.product_step-step.ensures in
    c.in_default.not-Post found.0 found.1 found.2

pub post-requires-clause-promised : goal.post-requires-clause-promised
post-requires-clause-promised g c =
    let plan = c.args.plan.now in
    let given = c.requires.sends.0 in
    let sending = c.requires.sends.1 in
    let d = c.args.desk.now in
    let long = head_listed plan given d sending c.product_steps-of_product.result.now c.product_steps-of_product.ensures in
    let left : c.loop-at.at < d.place.count = omega (arith, long, c.loop-at-test.true) in
    let now = (c.loop-at.invariant.3 given sending c.requires.sends.2).0 in
    let is = post_is plan given d sending c.loop-at.at c.loop-at.invariant.0 left now c.product_step-step.result c.product_step-step.ensures c.in-Post.number c.in-Post.share c.in-Post.is in
    c.requires.sends.2.posts _ c.in-Post.number c.in-Post.share is
    ∙ ap Some (sym (post_word plan given d sending c.loop-at.at c.loop-at.invariant.0 left now c.product_step-step.result c.product_step-step.ensures c.in-Post.number c.in-Post.share c.in-Post.is c.summands-summands.result.now c.args.wire c.requires.wire c.summands-summands.ensures.are))

pub loop-at-preserved : goal.loop-at-preserved
loop-at-preserved g c = (
  omega (arith, c.loop-at.invariant.0),
  omega (arith, c.loop-at-test.true),
  c.post.ensures.seat,
  (λ given sending words.
      let plan = c.args.plan.now in
      let d = c.args.desk.now in
      let long = head_listed plan given d sending c.product_steps-of_product.result.now c.product_steps-of_product.ensures in
      let left : c.loop-at.at < d.place.count = omega (arith, long, c.loop-at-test.true) in
      let so_far = c.loop-at.invariant.3 given sending words in
      let word = post_word plan given d sending c.loop-at.at c.loop-at.invariant.0 left so_far.0 c.product_step-step.result c.product_step-step.ensures c.in-Post.number c.in-Post.share c.in-Post.is c.summands-summands.result.now c.args.wire c.requires.wire c.summands-summands.ensures.are in (
        post_next plan given d sending c.loop-at.at c.loop-at.invariant.0 left so_far.0 c.product_step-step.result c.product_step-step.ensures c.in-Post.number c.in-Post.share c.in-Post.is,
        post_sent plan given d sending c.loop-at.at c.loop-at.invariant.0 left so_far.0 c.product_step-step.result c.product_step-step.ensures c.in-Post.number c.in-Post.share c.in-Post.is c.args.seat.now c.loop-at.seat c.post.new.seat _ c.post.result so_far.1 word c.post.ensures.view c.post.ensures.found,
      )),
)

pub overflow_add-desk : goal.overflow_add-desk
overflow_add-desk g c =
    let given = c.requires.sends.0 in
    let sending = c.requires.sends.1 in
    let long = head_listed c.args.plan.now given c.args.desk.now sending c.product_steps-of_product.result.now c.product_steps-of_product.ensures in
    let few = head_few c.args.plan.now given c.args.desk.now sending in
    omega (arith, long, few)

pub overflow_add-desk-2 : goal.overflow_add-desk-2
overflow_add-desk-2 g c =
    let given = c.requires.sends.0 in
    let sending = c.requires.sends.1 in
    let long = head_listed c.args.plan.now given c.args.desk.now sending c.product_steps-of_product.result.now c.product_steps-of_product.ensures in
    let few = sent_few c.args.plan.now given c.args.desk.now sending (omega (arith, c.fits-desk)) in
    omega (arith, long, few)

pub product_step-step-requires-clause-left : goal.product_step-step-requires-clause-left
product_step-step-requires-clause-left g c =
    let long = head_listed c.args.plan.now c.requires.sends.0 c.args.desk.now c.requires.sends.1 c.product_steps-of_product.result.now c.product_steps-of_product.ensures in
    omega (arith, long, c.loop-at-test.true)

pub bounds-summands-share : goal.bounds-summands-share
bounds-summands-share g c =
    let plan = c.args.plan.now in
    let given = c.requires.sends.0 in
    let sending = c.requires.sends.1 in
    let d = c.args.desk.now in
    let long = head_listed plan given d sending c.product_steps-of_product.result.now c.product_steps-of_product.ensures in
    let now = (c.loop-at.invariant.3 given sending c.requires.sends.2).0 in
    let share = post_share plan given d sending c.loop-at.at c.loop-at.invariant.0 (omega (arith, long, c.loop-at-test.true)) now c.product_step-step.result c.product_step-step.ensures c.in-Post.number c.in-Post.share c.in-Post.is in
    omega (arith, share, c.summands-summands.ensures.count)

pub overflow_add-at : goal.overflow_add-at
overflow_add-at g c =
    let given = c.requires.sends.0 in
    let sending = c.requires.sends.1 in
    let long = head_listed c.args.plan.now given c.args.desk.now sending c.product_steps-of_product.result.now c.product_steps-of_product.ensures in
    let few = head_few c.args.plan.now given c.args.desk.now sending in
    omega (arith, long, few, c.loop-at-test.true)

pub returns-clause-walks : goal.returns-clause-walks
returns-clause-walks g c given sending words =
    let plan = c.args.plan.now in
    let d = c.args.desk.now in
    let n : ℕ = length c.product_steps-of_product.result.now in
    let long = head_listed plan given d sending c.product_steps-of_product.result.now c.product_steps-of_product.ensures in
    let all : c.loop-at.at ≡ n = omega (arith, c.loop-at.invariant.1, c.loop-at-test.false) in
    let done = c.loop-at.invariant.3 given sending words in (
      subst (λ k. IsSending plan given k (posted_on d (n - 2))) (sym long) (subst (λ k. IsSending plan given k (posted_on d (k - 2))) all done.0),
      subst (λ k. Sends given c.args.seat.now d.position c.loop-at.seat (d.position + (k - 2))) all done.1,
    )
