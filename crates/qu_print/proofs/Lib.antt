pub mod LineFacts
pub mod RangeFacts
pub mod ReportFacts
pub mod SumFacts
