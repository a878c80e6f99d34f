-- Each kind has a file of one line, and some kinds have the file of no line.
use Rattle.std.proofs.Common.{◌≡◌, ℕ, inl, inr, ◌↔◌, true, false, pos, negsuc, ℤ, List, [], ◌∷◌, Option, Some, None, codes, refl, ◌∙◌, ap, arith}
use Rattle.std.proofs.lemmas.Int.{ints}
use Rattle.std.proofs.lemmas.List.Elements.{All-nil}
use Rattle.std.specs.Fmt.{decimal}
use Rattle.cg_text.specs.Decimal.{IsDecimal}
use Rattle.cg_text.specs.Device.{IsDevice}
use Rattle.cg_text.specs.Hundredths.{IsHundredths}
use Rattle.cg_text.specs.ListFacts.{not_nil}
use Rattle.cg_text.specs.NumeralLaws.{decimal_is}
use Rattle.cg_text.specs.Signed.{IsSigned}
use Rattle.cg_text.specs.Word.{IsControllerWord}
use Rattle.cg_text.specs.declared.hundredths.Spelling.TheVariants.{Read}
use Rattle.cg_text.specs.declared.values.Clamp.TheVariants as clamp
use Rattle.cg_text.specs.declared.values.Limit.TheVariants as limit
use Rattle.cg_text.specs.declared.values.ParamValue.TheVariants as param
use Rattle.cg_value.specs.Files.{ReadLines, KindFile}
use Rattle.cg_value.specs.Kind.{any_u64, IsReadForm}
use Rattle.cg_value.specs.Laws.{IsFirstLine, MayHaveNoLine}
use Rattle.cg_value.specs.Lines.{unlines}
use Rattle.cg_value.specs.RawLinesLaws.{raw_lines}
use Rattle.cg_value.specs.ReadLine.{AreAverages, ArePressureLines}
use Rattle.cg_value.specs.declared.kind.ReadForm.{ReadForm}
use Rattle.cg_value.specs.declared.kind.ReadForm.TheVariants as form
use Rattle.cg_value.specs.declared.value.Averages.{Averages}
use Rattle.cg_value.specs.declared.value.GroupMode.TheVariants.{Domain}
use Rattle.cg_text.specs.declared.values.IoClass.TheVariants.{Idle}
use Rattle.cg_value.specs.declared.value.Role.TheVariants.{Member}
use Rattle.cg_value.specs.declared.value.Value.{Value}
use Rattle.cg_value.specs.declared.value.Value.TheVariants as value

-- ---- A file of one line

zero : (hi : ℕ) → IsDecimal 0 hi 0 (codes "0")
zero hi = (omega arith, omega arith, inl (refl, refl, refl))

device : IsDevice (record { major = 0; minor = 0 }) (codes "0:0")
device = record { major = codes "0"; minor = codes "0"; text_is = refl; major_is = zero 4095; minor_is = zero 1048575 }

hundredths : (most : ℕ) → IsHundredths Read most (record { count = 0 }) (codes "0.00")
hundredths most = (
  omega arith,
  record {
    whole = 0;
    digits = codes "0";
    tenth = 48;
    hundredth = 48;
    text_is = refl;
    whole_is = inl (refl, refl, refl);
    tenth_is = (omega arith, omega arith);
    hundredth_is = (omega arith, omega arith);
    count_is = refl;
  },
)

no_averages : Averages
no_averages = record { avg10 = record { count = 0 }; avg60 = record { count = 0 }; avg300 = record { count = 0 }; total = 0 }

averages : AreAverages no_averages (codes " avg10=0.00 avg60=0.00 avg300=0.00 total=0")
unfolding no_averages
averages = record {
  avg10 = codes "0.00";
  avg60 = codes "0.00";
  avg300 = codes "0.00";
  total = codes "0";
  text_is = refl;
  avg10_is = hundredths 99999;
  avg60_is = hundredths 99999;
  avg300_is = hundredths 99999;
  total_is = zero any_u64;
}

signed_zero : (lo hi : ℤ) → lo ≡ negsuc 19 → hi ≡ pos 19 → IsSigned lo hi (pos 0) (codes "0")
signed_zero lo hi low high = (rw low (omega (arith, ints)), rw high (omega (arith, ints)), inl (refl, refl, refl))

-- A value with one line.
pub first_value : (kind : ReadForm) → IsReadForm kind → (v : Value) × (line : List ℕ) × ReadLines kind v (line ∷ [])
first_value (form.Number lo hi) b = (value.Number lo, decimal lo, record { x = lo; line = decimal lo; value = refl; lines_are = refl; spelled = decimal_is lo hi lo (omega arith) b.0 (omega (arith, b.0, b.1)) })
first_value (form.Signed lo hi) b = (value.Signed (pos 0), codes "0", record { x = pos 0; line = codes "0"; value = refl; lines_are = refl; spelled = signed_zero lo hi b.0 b.1 })
first_value form.Limit b = (value.Limit limit.Max, codes "max", record { x = limit.Max; line = codes "max"; value = refl; lines_are = refl; spelled = refl })
first_value form.Mode b = (value.Mode Domain, codes "domain", record { x = Domain; line = codes "domain"; value = refl; lines_are = refl; spelled = refl })
first_value form.Class b = (value.Class Idle, codes "idle", record { x = Idle; line = codes "idle"; value = refl; lines_are = refl; spelled = refl })
first_value form.CpuMax b = (
  value.CpuMax limit.Max 0,
  codes "max 0",
  record {
    x = (limit.Max, 0);
    line = codes "max 0";
    value = refl;
    lines_are = refl;
    spelled = record { front = codes "max"; back = codes "0"; text_is = refl; front_is = refl; back_is = zero any_u64 };
  },
)
first_value form.Clamp b = (value.Clamp clamp.Max, codes "max", record { x = clamp.Max; line = codes "max"; value = refl; lines_are = refl; spelled = refl })
first_value (form.Numbers lo hi) b =
    (value.Numbers (lo ∷ []), decimal lo, record { xs = lo ∷ []; value = refl; spelled = (decimal_is lo hi lo (omega arith) b.0 (omega (arith, b.0, b.1)), tt) })
first_value form.Words b = (value.Words [], [], record { x = []; value = refl; spelled = record { each = All-nil IsControllerWord; distinct = tt; lines_are = inl refl } })
first_value form.Flat b = (
  value.Flat (record { key = codes "a"; number = 0 } ∷ []),
  codes "a 0",
  record {
    x = record { key = codes "a"; number = 0 } ∷ [];
    value = refl;
    spelled = record {
      each = (record { front = codes "a"; back = codes "0"; text_is = refl; front_is = (refl, (omega arith, ((omega arith, omega arith, (λ e. omega (arith, e))), tt))); back_is = zero any_u64 }, tt);
      distinct = (tt, tt);
    };
  },
)
first_value form.FlatLimits b = (
  value.FlatLimits (record { key = codes "a"; limit = limit.Max } ∷ []),
  codes "a max",
  record {
    x = record { key = codes "a"; limit = limit.Max } ∷ [];
    value = refl;
    spelled = record {
      each = (record { front = codes "a"; back = codes "max"; text_is = refl; front_is = (refl, (omega arith, ((omega arith, omega arith, (λ e. omega (arith, e))), tt))); back_is = refl }, tt);
      distinct = (tt, tt);
    };
  },
)
first_value (form.DeviceStats kernel) b = (
  value.DeviceStats (record { device = Some (record { major = 0; minor = 0 }); pad = false; pairs = [] } ∷ []),
  codes "0:0",
  record {
    xs = record { device = Some (record { major = 0; minor = 0 }); pad = false; pairs = [] } ∷ [];
    value = refl;
    spelled = (record { device = codes "0:0"; pairs = []; line_is = refl; device_is = device; pairs_are = refl; distinct = tt }, tt);
  },
)
first_value (form.DeviceLimits kernel) b = (
  value.DeviceLimits (record { device = Some (record { major = 0; minor = 0 }); rbps = limit.Max; wbps = limit.Max; riops = limit.Max; wiops = limit.Max } ∷ []),
  codes "0:0 rbps=max wbps=max riops=max wiops=max",
  record {
    xs = record { device = Some (record { major = 0; minor = 0 }); rbps = limit.Max; wbps = limit.Max; riops = limit.Max; wiops = limit.Max } ∷ [];
    value = refl;
    spelled = (
      record {
        device = codes "0:0";
        rbps = codes "max";
        wbps = codes "max";
        riops = codes "max";
        wiops = codes "max";
        line_is = refl;
        device_is = device;
        rbps_is = refl;
        wbps_is = refl;
        riops_is = refl;
        wiops_is = refl;
      },
      tt,
    );
  },
)
first_value (form.DeviceWeights most kernel) b = (
  value.DeviceWeights 1 [],
  codes "default 1",
  record {
    default = 1;
    devices = [];
    first = codes "default 1";
    others = [];
    value = refl;
    lines_are = refl;
    first_is = (codes "1", refl, (omega arith, b.0, inr (omega arith, omega arith, tt, refl)));
    others_are = tt;
  },
)
first_value (form.DeviceTargets kernel) b = (
  value.DeviceTargets (record { device = Some (record { major = 0; minor = 0 }); target = 0 } ∷ []),
  codes "0:0 target=0",
  record {
    xs = record { device = Some (record { major = 0; minor = 0 }); target = 0 } ∷ [];
    value = refl;
    spelled = (record { front = codes "0:0"; back = codes "0"; text_is = refl; front_is = device; back_is = zero any_u64 }, tt);
  },
)
first_value form.DeviceParams b = (
  value.DeviceParams (record { device = Some (record { major = 0; minor = 0 }); params = record { key = codes "a"; value = param.Whole 0 } ∷ [] } ∷ []),
  codes "0:0 a=0",
  record {
    xs = record { device = Some (record { major = 0; minor = 0 }); params = record { key = codes "a"; value = param.Whole 0 } ∷ [] } ∷ [];
    value = refl;
    spelled = (
      record {
        device = codes "0:0";
        params = codes " a=0";
        line_is = refl;
        device_is = device;
        some = omega arith;
        params_are = (codes "a=0", [], refl, record { front = codes "a"; back = codes "0"; text_is = refl; front_is = (refl, (omega arith, ((omega arith, omega arith, (λ e. omega (arith, e))), tt))); back_is = zero any_u64 }, refl);
        distinct = (tt, tt);
      },
      tt,
    );
  },
)
first_value (form.Set most) b = (value.Set [], [], record { x = []; line = []; value = refl; lines_are = refl; spelled = (tt, refl) })
first_value form.Partition b = (value.Partition Member true None, codes "member", record { x = (Member, true, None); line = codes "member"; value = refl; lines_are = refl; spelled = refl })
first_value form.Pressure b = (
  value.Pressure (Some no_averages) None,
  codes "some avg10=0.00 avg60=0.00 avg300=0.00 total=0",
  record {
    x = (Some no_averages, None);
    value = refl;
    spelled = (codes "some avg10=0.00 avg60=0.00 avg300=0.00 total=0", refl, (codes " avg10=0.00 avg60=0.00 avg300=0.00 total=0", refl, averages));
  },
)
first_value form.Nested b = (
  value.Nested (record { key = codes "a"; pairs = [] } ∷ []),
  codes "a",
  record {
    x = record { key = codes "a"; pairs = [] } ∷ [];
    value = refl;
    spelled = record {
      each = (record { pairs = []; line_is = refl; key_is = (omega arith, ((omega arith, omega arith, (λ e. omega (arith, e))), tt)); pairs_are = refl; distinct = tt }, tt);
      distinct = (tt, tt);
    };
  },
)
first_value form.NodeStats b = (
  value.NodeStats 0 [],
  codes "total=0",
  record {
    x = (0, []);
    line = codes "total=0";
    value = refl;
    lines_are = refl;
    spelled = record { total = codes "0"; nodes = []; line_is = refl; total_is = zero any_u64; nodes_are = refl; distinct = tt };
  },
)
first_value form.Raw b = (value.Raw ([] ∷ []), [], record { xs = [] ∷ []; value = refl; spelled = ((refl, tt), tt) })

-- Each kind has a file of one line.
pub first_line : (kind : ReadForm) → IsReadForm kind → (line : List ℕ) × IsFirstLine kind line
first_line kind b =
    let one = first_value kind b in
    (one.1, record { raw = (raw_lines kind one.0 (one.1 ∷ []) one.2).0; file = (one.0, record { lines = one.1 ∷ []; spelled = one.2; text_is = refl }) })

-- ---- The file of no line

no_first : (line : List ℕ) (lines more : List (List ℕ)) → lines ≡ line ∷ more → [] ≡ unlines lines → ⊥
no_first line lines more e f = not_nil line 10 (unlines more) (f ∙ ap unlines e)

may_be : (kind : ReadForm) → MayHaveNoLine kind → (v : Value) × ReadLines kind v []
may_be (form.Number lo hi) h = absurd h
may_be (form.Signed lo hi) h = absurd h
may_be form.Limit h = absurd h
may_be form.Mode h = absurd h
may_be form.Class h = absurd h
may_be form.CpuMax h = absurd h
may_be form.Clamp h = absurd h
may_be (form.Numbers lo hi) h = (value.Numbers [], record { xs = []; value = refl; spelled = tt })
may_be form.Words h = (value.Words [], record { x = []; value = refl; spelled = record { each = All-nil IsControllerWord; distinct = tt; lines_are = inr (refl, refl) } })
may_be form.Flat h = (value.Flat [], record { x = []; value = refl; spelled = record { each = tt; distinct = tt } })
may_be form.FlatLimits h = (value.FlatLimits [], record { x = []; value = refl; spelled = record { each = tt; distinct = tt } })
may_be (form.DeviceStats kernel) h = (value.DeviceStats [], record { xs = []; value = refl; spelled = tt })
may_be (form.DeviceLimits kernel) h = (value.DeviceLimits [], record { xs = []; value = refl; spelled = tt })
may_be (form.DeviceWeights most kernel) h = absurd h
may_be (form.DeviceTargets kernel) h = (value.DeviceTargets [], record { xs = []; value = refl; spelled = tt })
may_be form.DeviceParams h = (value.DeviceParams [], record { xs = []; value = refl; spelled = tt })
may_be (form.Set most) h = absurd h
may_be form.Partition h = absurd h
may_be form.Pressure h = absurd h
may_be form.Nested h = (value.Nested [], record { x = []; value = refl; spelled = record { each = tt; distinct = tt } })
may_be form.NodeStats h = absurd h
may_be form.Raw h = (value.Raw [], record { xs = []; value = refl; spelled = tt })

no_pressure : (some full : Option Averages) (lines : List (List ℕ)) → ArePressureLines some full lines → [] ≡ unlines lines → ⊥
no_pressure None None lines h e = h
no_pressure (Some a) None lines h e = no_first h.0 lines [] h.1 e
no_pressure None (Some b) lines h e = no_first h.0 lines [] h.1 e
no_pressure (Some a) (Some b) lines h e = no_first h.0 lines (h.1 ∷ []) h.2 e

may_only : (kind : ReadForm) (v : Value) (lines : List (List ℕ)) → ReadLines kind v lines → [] ≡ unlines lines → MayHaveNoLine kind
may_only (form.Number lo hi) v lines h e = no_first h.line lines [] h.lines_are e
may_only (form.Signed lo hi) v lines h e = no_first h.line lines [] h.lines_are e
may_only form.Limit v lines h e = no_first h.line lines [] h.lines_are e
may_only form.Mode v lines h e = no_first h.line lines [] h.lines_are e
may_only form.Class v lines h e = no_first h.line lines [] h.lines_are e
may_only form.CpuMax v lines h e = no_first h.line lines [] h.lines_are e
may_only form.Clamp v lines h e = no_first h.line lines [] h.lines_are e
may_only (form.Numbers lo hi) v lines h e = tt
may_only form.Words v lines h e = tt
may_only form.Flat v lines h e = tt
may_only form.FlatLimits v lines h e = tt
may_only (form.DeviceStats kernel) v lines h e = tt
may_only (form.DeviceLimits kernel) v lines h e = tt
may_only (form.DeviceWeights most kernel) v lines h e = no_first h.first lines h.others h.lines_are e
may_only (form.DeviceTargets kernel) v lines h e = tt
may_only form.DeviceParams v lines h e = tt
may_only (form.Set most) v lines h e = no_first h.line lines [] h.lines_are e
may_only form.Partition v lines h e = no_first h.line lines [] h.lines_are e
may_only form.Pressure v lines h e = no_pressure (h.x.0) (h.x.1) lines h.spelled e
may_only form.Nested v lines h e = tt
may_only form.NodeStats v lines h e = no_first h.line lines [] h.lines_are e
may_only form.Raw v lines h e = tt

-- The kinds that have the text of no bytes.
pub no_line : (kind : ReadForm) → MayHaveNoLine kind ↔ KindFile kind []
no_line kind = (
  λ h. (let none = may_be kind h in (none.0, record { lines = []; spelled = none.1; text_is = refl })),
  λ h. may_only kind h.0 h.1.lines h.1.spelled h.1.text_is,
)
