-- Machinery: how the logic stores steps.
use Rattle.std.specs.Prelude.{◌≡◌, ℕ, List, [], Option, None, cond, ◌==◌, refl}
use Rattle.std.specs.Coded.{Coded, code_by, coded×, coded_ℕ, coded_list, coded_option}
use Rattle.gp_io.specs.Steps.{Call, Open, Store, Rename, Sync, Remove, Overwrite, Step, IsFree, IsPlain, IsOther, Did, DidNot}

abbrev CallParts : Type 0
CallParts = ℕ × (List ℕ × (List ℕ × Option ℕ))

abbrev call_parts : Call → CallParts
call_parts (Store name mode bytes) = (0, (name, (bytes, mode)))
call_parts (Rename from to) = (1, (from, (to, None)))
call_parts (Remove name) = (2, (name, ([], None)))
call_parts (Overwrite name bytes) = (3, (name, (bytes, None)))
call_parts (Open name) = (4, (name, ([], None)))
call_parts (Sync name) = (5, (name, ([], None)))

abbrev call_from : CallParts → Call
call_from p =
    cond (p.0 == 0) (Store p.1.0 p.1.1.1 p.1.1.0) (cond (p.0 == 1) (Rename p.1.0 p.1.1.0) (cond (p.0 == 2) (Remove p.1.0)
    (cond (p.0 == 3) (Overwrite p.1.0 p.1.1.0) (cond (p.0 == 4) (Open p.1.0) (Sync p.1.0)))))

pub call_from-parts : (call : Call) → call_from (call_parts call) ≡ call
call_from-parts (Store name mode bytes) = refl
call_from-parts (Rename from to) = refl
call_from-parts (Remove name) = refl
call_from-parts (Overwrite name bytes) = refl
call_from-parts (Open name) = refl
call_from-parts (Sync name) = refl

abbrev call_code : Coded Call
call_code = code_by CallParts (coded× coded_ℕ (coded× (coded_list coded_ℕ) (coded× (coded_list coded_ℕ) (coded_option coded_ℕ)))) call_parts call_from call_from-parts

abbrev Parts : Type 0
Parts = ℕ × (List ℕ × (List ℕ × (ℕ × Call)))

abbrev to_parts : Step → Parts
to_parts (IsPlain name target mode) = (0, (name, (target, (mode, Remove []))))
to_parts (IsOther name) = (1, (name, ([], (0, Remove []))))
to_parts (Did call) = (2, ([], ([], (0, call))))
to_parts (DidNot call) = (3, ([], ([], (0, call))))
to_parts (IsFree name) = (4, (name, ([], (0, Remove []))))

abbrev from_parts : Parts → Step
from_parts p =
    cond (p.0 == 0) (IsPlain p.1.0 p.1.1.0 p.1.1.1.0) (cond (p.0 == 1) (IsOther p.1.0) (cond (p.0 == 2) (Did p.1.1.1.1) (cond (p.0 == 3) (DidNot p.1.1.1.1) (IsFree p.1.0))))

pub from_parts-to_parts : (step : Step) → from_parts (to_parts step) ≡ step
from_parts-to_parts (IsPlain name target mode) = refl
from_parts-to_parts (IsOther name) = refl
from_parts-to_parts (Did call) = refl
from_parts-to_parts (DidNot call) = refl
from_parts-to_parts (IsFree name) = refl

abbrev pub steps_code : Coded (List Step)
steps_code = coded_list (code_by Parts (coded× coded_ℕ (coded× (coded_list coded_ℕ) (coded× (coded_list coded_ℕ) (coded× coded_ℕ call_code)))) to_parts from_parts from_parts-to_parts)
