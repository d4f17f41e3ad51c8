use Rattle.std.proofs.Common.{◌≡◌, ◌∙◌, ap, ap₂, subst, length, map}
use Rattle.party_set.specs.Parties.{Members, Structure}
use Rattle.maximal_groups.specs.Families.{is_tolerated_by}
use Rattle.job_walk.specs.Verdict.{Ends}
use Rattle.job_walk.specs.JobOf.{groups_of, GroupsOf}
use Rattle.job_walk.specs.Reads.{WalksAs}
use Rattle.job_walk.proofs.structure.groups_of_list.Goals as goal

pub returns-clause-walks : goal.returns-clause-walks
unfolding GroupsOf
returns-clause-walks c =
    let list : Structure = record { parties = length c.args.names.now; groups = map (λ (m : Members). m.mask) c.args.groups.now } in
    let same : c.make-listed.result ≡ list =
    c.make-listed.ensures ∙ ap₂ (λ n gs. record { parties = n; groups = gs }) c.len.ensures.is (ap (map (λ (m : Members). m.mask)) c.in_ok-from_slice.ensures.items) in
    subst (λ (s : Structure). WalksAs (λ (groups : Structure). groups) (Ends (groups_of s.parties (is_tolerated_by s.parties s.groups))) c.groups_of.result) same c.groups_of.ensures.walks
