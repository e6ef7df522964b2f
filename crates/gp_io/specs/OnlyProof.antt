-- Machinery: that calls lead from some files to others has one proof at most, as the logic asks of what a struct keeps.
use Rattle.std.specs.Prelude.{◌≡◌, ℕ, List, [], ◌∷◌, Option}
use Rattle.std.specs.Coded.{×_prop, Π_prop, Coded, Coded-set, coded_option, coded_list, coded_ℕ}
use Rattle.gp_io.specs.Contents.{Contents, Leads, replaced_by}
use Rattle.gp_io.specs.Events.{Event, Read, Missing, Unreadable, Stopped, Replaced, NotReplaced}

abbrev coded_content : Coded (Option (List ℕ))
coded_content = coded_option (coded_list coded_ℕ)

same_prop : (old new : Option (List ℕ)) → IsProp (old ≡ new)
same_prop old new = Coded-set coded_content old new

pub leads_prop : (old : Contents) (events : List Event) (new : Contents) → IsProp (Leads old events new)
leads_prop old [] new = Π_prop (λ name. same_prop (new name) (old name))
leads_prop old (Read name most bytes ∷ events) new = ×_prop (same_prop _ _) (leads_prop old events new)
leads_prop old (Missing name ∷ events) new = ×_prop (same_prop _ _) (leads_prop old events new)
leads_prop old (Unreadable name ∷ events) new = leads_prop old events new
leads_prop old (Stopped name ∷ events) new = leads_prop old events new
leads_prop old (Replaced name bytes ∷ events) new = leads_prop (replaced_by name bytes old) events new
leads_prop old (NotReplaced name bytes ∷ events) new = leads_prop old events new
