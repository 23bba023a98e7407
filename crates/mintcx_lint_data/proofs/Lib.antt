mod BackLaws
mod DataLaws
mod RangeLaws
