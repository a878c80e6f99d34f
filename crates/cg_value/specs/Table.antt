-- The file table: what each interface file holds when it is read, and what one write of it holds (cgroup-v2.rst, "Core
-- Interface Files", "CPU", "Memory", "IO", "PID" and "Cpuset"). The bounds of cpu.weight as it is read include 0, which
-- kernels print where a group is idle. The document is that of Linux 6.1.192:
-- https://www.kernel.org/doc/html/v6.1/admin-guide/cgroup-v2.html. The rows of the kernel profile alone are what kernels up to
-- 7.3 print (cgroup-v2.rst of 7.3, also "HugeTLB", "Misc" and "DMEM"; block/bfq-iosched.rst, "BFQ group scheduling").
use Rattle.std.specs.Prelude.{ℕ, Bool, true, false, pos, negsuc, List, [], ◌∷◌, Option, Some, None, codes, if◌then◌else◌}
use Rattle.std.specs.List.{list_any}
use Rattle.std.specs.Str.{bytes_eq}
use Rattle.cg_value.specs.Kind.{any_u64}
use Rattle.cg_value.specs.RowName.{row_name}
use Rattle.cg_value.specs.declared.kind.ReadForm.{ReadForm}
use Rattle.cg_value.specs.declared.kind.ReadForm.TheVariants as read
use Rattle.cg_value.specs.declared.kind.WriteForm.{WriteForm}
use Rattle.cg_value.specs.declared.kind.WriteForm.TheVariants as write
use Rattle.cg_value.specs.declared.profile.Profile.{Profile}
use Rattle.cg_value.specs.declared.profile.Profile.TheVariants.{One, Two, Kernel}

-- A row: none stands where a file of the name can't be read, or written.
pub record Row : Type 0 where
  pub name : List ℕ
  pub reads : Option ReadForm
  pub writes : Option WriteForm

abbrev pub row : List ℕ → Option ReadForm → Option WriteForm → Row
row name reads writes = record { name = name; reads = reads; writes = writes }

-- Where the profiles differ: the greatest list number, how memory.numa_stat is read, whether devices may be gone and amounts
-- of theirs be below 0, what a write of memory.reclaim holds, and which rows come after the others.
abbrev pub list_end : Profile → ℕ
list_end One = 65535
list_end Two = 1048575
list_end Kernel = 1048575

abbrev pub numa_stat : Profile → ReadForm
numa_stat One = read.Raw
numa_stat Two = read.Nested
numa_stat Kernel = read.Nested

abbrev pub is_kernel : Profile → Bool
is_kernel One = false
is_kernel Two = false
is_kernel Kernel = true

abbrev pub more_rows : Profile → List Row
more_rows One = []
more_rows Two = []
more_rows Kernel = row (codes "cgroup.stat.local") (Some read.Flat) (None)
    ∷ row (codes "cpu.stat.local") (Some read.Flat) (None)
    ∷ row (codes "pids.events.local") (Some read.Flat) (None)
    ∷ row (codes "hugetlb.*.current") (Some (read.Number 0 any_u64)) (None)
    ∷ row (codes "hugetlb.*.rsvd.current") (Some (read.Number 0 any_u64)) (None)
    ∷ row (codes "hugetlb.*.max") (Some read.Limit) (Some write.SizeLimit)
    ∷ row (codes "hugetlb.*.rsvd.max") (Some read.Limit) (Some write.SizeLimit)
    ∷ row (codes "hugetlb.*.events") (Some read.Flat) (None)
    ∷ row (codes "hugetlb.*.events.local") (Some read.Flat) (None)
    ∷ row (codes "hugetlb.*.numa_stat") (Some read.NodeStats) (None)
    ∷ row (codes "misc.capacity") (Some read.Flat) (None)
    ∷ row (codes "misc.current") (Some read.Flat) (None)
    ∷ row (codes "misc.peak") (Some read.Flat) (None)
    ∷ row (codes "misc.events") (Some read.Flat) (None)
    ∷ row (codes "misc.events.local") (Some read.Flat) (None)
    ∷ row (codes "misc.max") (Some read.FlatLimits) (Some write.Raw)
    ∷ row (codes "dmem.capacity") (Some read.Flat) (None)
    ∷ row (codes "dmem.current") (Some read.Flat) (None)
    ∷ row (codes "dmem.peak") (Some read.Flat) (None)
    ∷ row (codes "dmem.min") (Some read.FlatLimits) (Some write.Raw)
    ∷ row (codes "dmem.low") (Some read.FlatLimits) (Some write.Raw)
    ∷ row (codes "dmem.max") (Some read.FlatLimits) (Some write.Raw)
    ∷ row (codes "io.bfq.weight") (Some (read.DeviceWeights 1000 true)) (Some (write.DeviceWeight 1000))
    ∷ row (codes "io.cost.qos") (Some read.DeviceParams) (Some write.Raw)
    ∷ row (codes "io.cost.model") (Some read.DeviceParams) (Some write.Raw)
    ∷ row (codes "io.prio.class") (Some read.Class) (Some write.Class)
    ∷ []

abbrev pub rows : Profile → List Row
rows profile = row (codes "cgroup.type") (Some read.Mode) (Some write.Mode)
    ∷ row (codes "cgroup.procs") (Some (read.Numbers 0 2147483647)) (Some (write.Number 0 2147483647))
    ∷ row (codes "cgroup.threads") (Some (read.Numbers 0 2147483647)) (Some (write.Number 0 2147483647))
    ∷ row (codes "cgroup.controllers") (Some read.Words) (None)
    ∷ row (codes "cgroup.subtree_control") (Some read.Words) (Some write.Controllers)
    ∷ row (codes "cgroup.events") (Some read.Flat) (None)
    ∷ row (codes "cgroup.stat") (Some read.Flat) (None)
    ∷ row (codes "cgroup.max.descendants") (Some read.Limit) (Some (write.Limit 0 any_u64))
    ∷ row (codes "cgroup.max.depth") (Some read.Limit) (Some (write.Limit 0 any_u64))
    ∷ row (codes "cgroup.freeze") (Some (read.Number 0 1)) (Some (write.Number 0 1))
    ∷ row (codes "cgroup.pressure") (Some (read.Number 0 1)) (Some (write.Number 0 1))
    ∷ row (codes "cgroup.kill") (None) (Some (write.Number 1 1))
    ∷ row (codes "cpu.stat") (Some read.Flat) (None)
    ∷ row (codes "cpu.weight") (Some (read.Number 0 10000)) (Some (write.Number 1 10000))
    ∷ row (codes "cpu.weight.nice") (Some (read.Signed (negsuc 19) (pos 19))) (Some (write.Signed (negsuc 19) (pos 19)))
    ∷ row (codes "cpu.idle") (Some (read.Number 0 1)) (Some (write.Number 0 1))
    ∷ row (codes "cpu.max") (Some read.CpuMax) (Some write.CpuMax)
    ∷ row (codes "cpu.max.burst") (Some (read.Number 0 any_u64)) (Some (write.Number 0 any_u64))
    ∷ row (codes "cpu.uclamp.min") (Some read.Clamp) (Some write.Clamp)
    ∷ row (codes "cpu.uclamp.max") (Some read.Clamp) (Some write.Clamp)
    ∷ row (codes "cpu.pressure") (Some read.Pressure) (Some write.Trigger)
    ∷ row (codes "memory.current") (Some (read.Number 0 any_u64)) (None)
    ∷ row (codes "memory.peak") (Some (read.Number 0 any_u64)) (None)
    ∷ row (codes "memory.swap.current") (Some (read.Number 0 any_u64)) (None)
    ∷ row (codes "memory.swap.peak") (Some (read.Number 0 any_u64)) (None)
    ∷ row (codes "memory.zswap.current") (Some (read.Number 0 any_u64)) (None)
    ∷ row (codes "memory.min") (Some read.Limit) (Some write.SizeLimit)
    ∷ row (codes "memory.low") (Some read.Limit) (Some write.SizeLimit)
    ∷ row (codes "memory.high") (Some read.Limit) (Some write.SizeLimit)
    ∷ row (codes "memory.max") (Some read.Limit) (Some write.SizeLimit)
    ∷ row (codes "memory.swap.high") (Some read.Limit) (Some write.SizeLimit)
    ∷ row (codes "memory.swap.max") (Some read.Limit) (Some write.SizeLimit)
    ∷ row (codes "memory.zswap.max") (Some read.Limit) (Some write.SizeLimit)
    ∷ row (codes "memory.oom.group") (Some (read.Number 0 1)) (Some (write.Number 0 1))
    ∷ row (codes "memory.zswap.writeback") (Some (read.Number 0 1)) (Some (write.Number 0 1))
    ∷ row (codes "memory.stat") (Some read.Flat) (None)
    ∷ row (codes "memory.events") (Some read.Flat) (None)
    ∷ row (codes "memory.events.local") (Some read.Flat) (None)
    ∷ row (codes "memory.swap.events") (Some read.Flat) (None)
    ∷ row (codes "memory.reclaim") (None) (Some (write.Reclaim (is_kernel profile)))
    ∷ row (codes "memory.numa_stat") (Some (numa_stat profile)) (None)
    ∷ row (codes "memory.pressure") (Some read.Pressure) (Some write.Trigger)
    ∷ row (codes "io.stat") (Some (read.DeviceStats (is_kernel profile))) (None)
    ∷ row (codes "io.max") (Some (read.DeviceLimits (is_kernel profile))) (Some write.DeviceLimits)
    ∷ row (codes "io.weight") (Some (read.DeviceWeights 10000 (is_kernel profile))) (Some (write.DeviceWeight 10000))
    ∷ row (codes "io.latency") (Some (read.DeviceTargets (is_kernel profile))) (Some write.DeviceTarget)
    ∷ row (codes "io.pressure") (Some read.Pressure) (Some write.Trigger)
    ∷ row (codes "irq.pressure") (Some read.Pressure) (Some write.Trigger)
    ∷ row (codes "pids.max") (Some read.Limit) (Some (write.Limit 0 4194304))
    ∷ row (codes "pids.current") (Some (read.Number 0 any_u64)) (None)
    ∷ row (codes "pids.peak") (Some (read.Number 0 any_u64)) (None)
    ∷ row (codes "pids.events") (Some read.Flat) (None)
    ∷ row (codes "cpuset.cpus") (Some (read.Set (list_end profile))) (Some (write.Set (list_end profile)))
    ∷ row (codes "cpuset.mems") (Some (read.Set (list_end profile))) (Some (write.Set (list_end profile)))
    ∷ row (codes "cpuset.cpus.effective") (Some (read.Set (list_end profile))) (None)
    ∷ row (codes "cpuset.mems.effective") (Some (read.Set (list_end profile))) (None)
    ∷ row (codes "cpuset.cpus.exclusive") (Some (read.Set (list_end profile))) (Some (write.Set (list_end profile)))
    ∷ row (codes "cpuset.cpus.exclusive.effective") (Some (read.Set (list_end profile))) (None)
    ∷ row (codes "cpuset.cpus.isolated") (Some (read.Set (list_end profile))) (None)
    ∷ row (codes "cpuset.cpus.partition") (Some read.Partition) (Some write.Role)
    ∷ more_rows profile

-- What the first row of the name says. A name outside the table is raw both ways.
abbrev pub reads_in : List Row → List ℕ → Option ReadForm
reads_in [] name = Some read.Raw
reads_in (r ∷ rs) name = if bytes_eq r.name name then r.reads else reads_in rs name

abbrev pub writes_in : List Row → List ℕ → Option WriteForm
writes_in [] name = Some write.Raw
writes_in (r ∷ rs) name = if bytes_eq r.name name then r.writes else writes_in rs name

-- The same of the row's name that a file's name has, if it may have one.
abbrev pub reads_by : List Row → Option (List ℕ) → Option ReadForm
reads_by rs None = Some read.Raw
reads_by rs (Some name) = reads_in rs name

abbrev pub writes_by : List Row → Option (List ℕ) → Option WriteForm
writes_by rs None = Some write.Raw
writes_by rs (Some name) = writes_in rs name

-- What a file of this name holds in the profile, none where it can't be read.
unfoldable pub read_form_of : Profile → List ℕ → Option ReadForm
read_form_of profile name = reads_by (rows profile) (row_name name)

-- What one write of a file of this name holds in the profile, none where it can't be written.
unfoldable pub write_form_of : Profile → List ℕ → Option WriteForm
write_form_of profile name = writes_by (rows profile) (row_name name)

-- Whether a file of this name has a row in the profile.
abbrev pub is_named : List Row → Option (List ℕ) → Bool
is_named rs None = false
is_named rs (Some name) = list_any (λ r. bytes_eq r.name name) rs

unfoldable pub has_row : Profile → List ℕ → Bool
has_row profile name = is_named (rows profile) (row_name name)
